use Rattle.std.proofs.Common.{◌≡◌, length}
use Rattle.far_word.specs.declared.refused.Refused.TheVariants.{NoRoom}
use Rattle.far_private.specs.Causes.{StaysFar}
use Rattle.far_private.specs.Objects.{state_in}
use Rattle.far_private.specs.Steps.{Keeps}
use Rattle.far_evac.specs.declared.phase.Phase.TheVariants.{Idle}
use Rattle.far_private.proofs.ranges.read_again.Given as goal

abbrev pub invariant-loop-rounds : goal.invariant-loop-rounds
invariant-loop-rounds g l = record {
  keeps : Keeps (state_in l.fn.evac) (state_in l.evac);
  long : length l.out ≡ length l.fn.out;
  kept : l.out ≡ l.fn.out;
  idle : l.fn.evac.phase ≡ Idle → l.evac.phase ≡ Idle;
  far : StaysFar g.row.D.Denot g.D.Device.reads (state_in l.evac) l.fn.pointer l.evac.book.device NoRoom;
}

abbrev pub decreases-loop-rounds : goal.decreases-loop-rounds
decreases-loop-rounds g l = l.rounds.left
