use Rattle.std.proofs.Common.{◌≡◌, ℕ, List, ◌/◌, ◌<◌, sym, length, inl, inr, subst, arith}
use Rattle.far_objects.specs.Far.{Far}
use Rattle.far_array.specs.Places.{IsMadeAnew}
use Rattle.far_array.proofs.Sizes.{block_some}
use Rattle.far_array.proofs.Swapped.{remade}
use Rattle.far_array.proofs.Written.{place_low}
use Rattle.far_array.proofs.swap.remake.Goals as goal

pub make_anew-requires : goal.make_anew-requires
make_anew-requires g c =
    let p = c.args.parts.now in
    let low = place_low c.args.i p.per (length p.blocks.items) c.requires.placed.some c.requires.within in
    let some = block_some (g.O.Objects.far p.worker) p.blocks.items p.per p.size c.requires.placed in
    let whole = c.read_with.ensures.whole in
    record { low = subst (λ (xs : List ℕ). c.args.i / p.per < length xs) (let b : c.read_with.new.parts.blocks.items ≡ p.blocks.items = λ k. (c.read_with.ensures.blocks k).items in sym b) low; some = omega (arith, some, whole); fits = omega (arith, whole, c.requires.placed.fits) }

pub returns-in-Err-clause-why : goal.returns-in-Err-clause-why
returns-in-Err-clause-why g c = inl c.in-Err.ensures.why

pub returns-in-Err-make_anew-clause-why : goal.returns-in-Err-make_anew-clause-why
returns-in-Err-make_anew-clause-why g c = inr c.in-Err-make_anew.ensures.why

pub returns-in-Ok-make_anew-clause-remade : goal.returns-in-Ok-make_anew-clause-remade
returns-in-Ok-make_anew-clause-remade g c =
    let p = c.args.parts.now in
    let n = c.make_anew.new.parts in
    let e = c.read_with.ensures in
    let f = g.O.Objects.far p.worker in
    let h = g.O.Objects.far n.worker in
    let all = c.read_with.new.all in
    remade f h p.blocks.items n.blocks.items p.per p.size c.args.i c.in-Ok.was c.args.bytes.now all c.requires.placed c.requires.within c.requires.long e.whole c.in-Ok.ensures.named c.in-Ok.ensures.pieced
    (subst (λ (x : Far × List ℕ). IsMadeAnew (c.args.i / p.per) all x.0 h x.1 n.blocks.items) (λ k. (e.same k, (e.blocks k).items)) c.in-Ok-make_anew.ensures.made)
