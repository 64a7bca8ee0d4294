use Rattle.std.proofs.Common.{◌≡◌, ◌/◌, ◌%◌, ◌*◌, length, refl}
use Rattle.std.specs.Prelude.{slice_index}
use Rattle.std.proofs.lemmas.List.{get_or_read}
use Rattle.far_objects.specs.Far.{barred}
use Rattle.far_array.proofs.Reached.{on_ok, if_err, missed}
use Rattle.far_array.proofs.Written.{place_low, read_all, unbarred_all}
use Rattle.far_array.proofs.rows.read_rows.Goals as goal

pub returns-clause-read : goal.returns-clause-read
returns-clause-read g c = λ o.
    let p = c.args.parts.now in
    let i = c.args.i in
    let f = g.O.Objects.far p.worker in
    let low = place_low i p.per (length p.blocks.items) c.requires.placed.some c.requires.within in
    let named : c.index-number.result.now ≡ slice_index p.blocks.items (i / p.per) = get_or_read p.blocks.items (i / p.per) c.index-number.result.now low c.index-number.ensures 0 in
    on_ok c.read.result _ _
    (λ told. read_all f p.blocks.items p.per p.size i c.requires.placed c.requires.within c.args.n c.requires.one c.index-number.result.now ((i % p.per) * p.size) (length c.args.out.now) c.read.new.out (g.met.O.Objects.known p.worker) named refl c.requires.long o told)
    c.read.ensures.read

pub returns-clause-why : goal.returns-clause-why
returns-clause-why g c =
    let p = c.args.parts.now in
    let i = c.args.i in
    let f = g.O.Objects.far p.worker in
    let low = place_low i p.per (length p.blocks.items) c.requires.placed.some c.requires.within in
    let named : c.index-number.result.now ≡ slice_index p.blocks.items (i / p.per) = get_or_read p.blocks.items (i / p.per) c.index-number.result.now low c.index-number.ensures 0 in
    let free = unbarred_all f p.blocks.items p.per p.size i c.requires.placed c.requires.within c.args.n c.requires.one c.index-number.result.now ((i % p.per) * p.size) (length c.args.out.now) c.requires.some named refl c.requires.long in
    if_err c.read.result _ _ (λ why w. missed g.O.Objects.unreached f.honest (barred (f.sizes c.index-number.result.now) ((i % p.per) * p.size) (length c.args.out.now)) why free w) c.read.ensures.why
