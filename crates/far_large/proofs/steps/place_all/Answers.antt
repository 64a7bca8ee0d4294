use Rattle.std.proofs.Common.{length, ◌∙◌, ap, subst, arith}
use Rattle.far_objects.specs.Far.{Makes}
use Rattle.far_large.specs.Parts.{number_of, part_of}
use Rattle.far_large.proofs.Placing.{make_more}
use Rattle.far_large.proofs.steps.place_all.Goals as goal

pub drop_first-requires-clause-there : goal.drop_first-requires-clause-there
drop_first-requires-clause-there g c = λ i h. (length (part_of c.args.bytes.now i), ap (λ far. far.sizes (number_of c.loop-i.numbers i)) c.in-Err.ensures.refused ∙ (c.loop-i.invariant.holds i h).size)

pub loop-i-preserved : goal.loop-i-preserved
loop-i-preserved g c = make_more c.loop-i.numbers c.loop-i.i c.in-Ok.number c.args.bytes.now _ _ _ (omega arith) c.loop-i.invariant
    (subst (λ xs. Makes c.in-Ok.number xs (g.O.Objects.far c.loop-i.worker) (g.O.Objects.far c.alloc.new.self)) c.part.ensures.value c.in-Ok.ensures.made)
