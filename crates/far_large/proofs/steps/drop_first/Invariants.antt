use Rattle.far_large.specs.Parts.{Dropped}
use Rattle.far_large.proofs.steps.drop_first.Given as goal

abbrev pub invariant-loop-i : goal.invariant-loop-i
invariant-loop-i g l = Dropped l.numbers l.i (g.O.Objects.far l.fn.worker) (g.O.Objects.far l.worker)
