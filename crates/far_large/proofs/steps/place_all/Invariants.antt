use Rattle.far_large.specs.Parts.{Placed}
use Rattle.far_large.proofs.steps.place_all.Given as goal

abbrev pub invariant-loop-i : goal.invariant-loop-i
invariant-loop-i g l = Placed l.numbers l.i l.bytes (g.O.Objects.far l.fn.worker) (g.O.Objects.far l.worker)
