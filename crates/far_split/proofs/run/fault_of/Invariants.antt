use Rattle.far_split.proofs.Faults.{SoFar}
use Rattle.far_split.proofs.run.fault_of.Given as goal

abbrev pub invariant-loop-at : goal.invariant-loop-at
invariant-loop-at l = SoFar l.ends l.at l.fault
