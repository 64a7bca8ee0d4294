use Rattle.std.proofs.Common.{◌+◌, subst, sym}
use Rattle.far_split.specs.declared.mutators.Stop.TheVariants as stops
use Rattle.far_split.proofs.Faults.{SoFar, all_seen, err_is, fine_more, gate_first, memory_more}
use Rattle.far_split.proofs.run.fault_of.Goals as goal
use Rattle.far_split.proofs.run.fault_of.Goals.{in-Err+in-Memory, in_default}

pub returns-in-Gate : goal.returns-in-Gate
returns-in-Gate c =
    gate_first c.args.ends.now c.loop-at.at c.index-ends-at.result c.loop-at-test.true c.index-ends-at.is c.loop-at.fault c.who_at.result c.loop-at.invariant
    (err_is c.index-ends-at.result c.in-Err.stop stops.Gate c.in-Err.is c.in-Gate.is) c.who_at.ensures

pub loop-at-preserved : goal.loop-at-preserved
loop-at-preserved c =
    let ends = c.args.ends.now in
    let at = c.loop-at.at in
    elim c.match-end.branch [
      | in-Err+in-Memory w ↦ subst (SoFar ends (at + 1)) (sym w.fault-is)
          (memory_more ends at c.index-ends-at.result c.loop-at-test.true c.index-ends-at.is c.loop-at.fault c.loop-at.invariant
          (err_is c.index-ends-at.result w.in-Err.stop stops.Memory w.in-Err.is w.in-Memory.is))
      | in_default w ↦ subst (SoFar ends (at + 1)) (sym w.fault-is)
          (fine_more ends at c.index-ends-at.result c.loop-at-test.true c.index-ends-at.is c.loop-at.fault c.loop-at.invariant (λ why. w.in_default.not-Err why))
    ]

pub returns : goal.returns
returns c = all_seen c.args.ends.now c.loop-at.at c.loop-at.fault c.loop-at-test.false c.loop-at.invariant
