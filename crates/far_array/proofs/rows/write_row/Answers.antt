use Rattle.std.proofs.Common.{◌≡◌, ◌/◌, ◌%◌, ◌*◌, length, refl, subst}
use Rattle.std.specs.Prelude.{slice_index}
use Rattle.std.proofs.lemmas.List.{get_or_read}
use Rattle.far_objects.specs.Far.{Writes, barred}
use Rattle.far_array.specs.Places.{Wrote}
use Rattle.far_array.proofs.Reached.{on_ok, if_err, missed}
use Rattle.far_array.proofs.Written.{place_low, wrote, unbarred}
use Rattle.far_array.proofs.rows.write_row.Goals as goal

pub returns-clause-wrote : goal.returns-clause-wrote
returns-clause-wrote g c =
    let p = c.args.parts.now in
    let i = c.args.i in
    let f = g.O.Objects.far p.worker in
    let h = g.O.Objects.far c.write.new.self in
    let low = place_low i p.per (length p.blocks.items) c.requires.placed.some c.requires.within in
    let named : c.index-number.result.now ≡ slice_index p.blocks.items (i / p.per) = get_or_read p.blocks.items (i / p.per) c.index-number.result.now low c.index-number.ensures 0 in
    on_ok c.write.result _ (Wrote i c.args.bytes.now f h p.blocks.items p.blocks.items p.per p.size)
    (λ w. wrote f h p.blocks.items p.per p.size i c.args.bytes.now (g.met.O.Objects.known p.worker) c.requires.placed c.requires.within c.requires.long
    (subst (λ k. Writes k ((i % p.per) * p.size) c.args.bytes.now f h) named w))
    c.write.ensures.written

pub returns-clause-why : goal.returns-clause-why
returns-clause-why g c =
    let p = c.args.parts.now in
    let i = c.args.i in
    let f = g.O.Objects.far p.worker in
    let low = place_low i p.per (length p.blocks.items) c.requires.placed.some c.requires.within in
    let named : c.index-number.result.now ≡ slice_index p.blocks.items (i / p.per) = get_or_read p.blocks.items (i / p.per) c.index-number.result.now low c.index-number.ensures 0 in
    let free = unbarred f p.blocks.items p.per p.size i c.requires.placed c.requires.within c.index-number.result.now ((i % p.per) * p.size) (length c.args.bytes.now) named refl c.requires.long in
    if_err c.write.result _ _ (λ why w. missed g.O.Objects.unreached f.honest (barred (f.sizes c.index-number.result.now) ((i % p.per) * p.size) (length c.args.bytes.now)) why free w) c.write.ensures.why
