use Rattle.std.proofs.Common.{◌≡◌, ℕ, List, ◌/◌, ◌%◌, ◌*◌, length, ◌∙◌, ap, subst, take, drop, arith}
use Rattle.std.specs.Prelude.{IfSome, slice_index}
use Rattle.std.proofs.lemmas.List.{get_or_read, take_all}
use Rattle.far_objects.specs.Far.{barred, with_range}
use Rattle.far_array.proofs.Pieces.{length_range}
use Rattle.far_array.proofs.Reached.{free, missed}
use Rattle.far_array.proofs.Sizes.{block_some}
use Rattle.far_array.proofs.Written.{its_size, place_low, within}
use Rattle.far_array.proofs.swap.read_with.Goals as goal

pub put_at-requires : goal.put_at-requires
put_at-requires g c =
    let p = c.args.parts.now in
    let low = within c.args.i p.per p.size c.requires.placed.some in
    omega (arith, low, c.requires.long, c.requires.whole, c.read.ensures.long)

pub returns-clause-whole : goal.returns-clause-whole
returns-clause-whole g c =
    let p = c.args.parts.now in
    let low = within c.args.i p.per p.size c.requires.placed.some in
    ap (λ (xs : List ℕ). length xs) c.put_at.ensures
    ∙ length_range c.read.new.out c.args.bytes.now ((c.args.i % p.per) * p.size) (omega (arith, low, c.requires.long, c.requires.whole, c.read.ensures.long))
    ∙ c.read.ensures.long ∙ c.requires.whole

pub returns-clause-named : goal.returns-clause-named
returns-clause-named g c =
    let p = c.args.parts.now in
    get_or_read p.blocks.items (c.args.i / p.per) c.index-number.result.now (place_low c.args.i p.per (length p.blocks.items) c.requires.placed.some c.requires.within) c.index-number.ensures 0

pub returns-clause-pieced : goal.returns-clause-pieced
returns-clause-pieced g c = λ o.
    let p = c.args.parts.now in
    let i = c.args.i in
    let f = g.O.Objects.far p.worker in
    let number = c.index-number.result.now in
    let named : number ≡ slice_index p.blocks.items (i / p.per) = get_or_read p.blocks.items (i / p.per) number (place_low i p.per (length p.blocks.items) c.requires.placed.some c.requires.within) c.index-number.ensures 0 in
    let w = (g.met.O.Objects.known p.worker number (p.per * p.size) (its_size f p.blocks.items p.per p.size i c.requires.placed c.requires.within number named)).known o in
    let e : c.read.new.out ≡ w.0 =
    subst (λ x. IfSome x (λ bytes. c.read.new.out ≡ take (length c.args.all.now) (drop 0 bytes))) w.1 c.in-Ok.ensures.read ∙ take_all (length c.args.all.now) w.0 (omega (arith, w.2, c.requires.whole)) in
    (w.0, w.1, w.2, c.put_at.ensures ∙ ap (λ xs. with_range xs ((i % p.per) * p.size) c.args.bytes.now) e)

pub returns-in-Err-clause-why : goal.returns-in-Err-clause-why
returns-in-Err-clause-why g c =
    let p = c.args.parts.now in
    let i = c.args.i in
    let f = g.O.Objects.far p.worker in
    let number = c.index-number.result.now in
    let named : number ≡ slice_index p.blocks.items (i / p.per) = get_or_read p.blocks.items (i / p.per) number (place_low i p.per (length p.blocks.items) c.requires.placed.some c.requires.within) c.index-number.ensures 0 in
    let some = block_some f p.blocks.items p.per p.size c.requires.placed in
    missed g.O.Objects.unreached f.honest (barred (f.sizes number) 0 (length c.args.all.now)) c.in-Err.why
    (free (f.sizes number) (p.per * p.size) 0 (length c.args.all.now) (its_size f p.blocks.items p.per p.size i c.requires.placed c.requires.within number named) (omega (arith, some, c.requires.whole)) (omega (arith, c.requires.whole)))
    c.in-Err.ensures.why
