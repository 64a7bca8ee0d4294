use Rattle.far_private.specs.Objects.{state_in}
use Rattle.far_private.specs.Steps.{Keeps}
use Rattle.std.proofs.Common.{◌≡◌}
use Rattle.far_evac.specs.declared.phase.Phase.TheVariants.{Idle}
use Rattle.far_private.proofs.places.place_by_rounds.Given as goal

abbrev pub invariant-loop-rounds : goal.invariant-loop-rounds
invariant-loop-rounds g l = record { keeps : Keeps (state_in l.fn.evac) (state_in l.evac); idle : l.fn.evac.phase ≡ Idle → l.evac.phase ≡ Idle }

abbrev pub decreases-loop-rounds : goal.decreases-loop-rounds
decreases-loop-rounds g l = l.rounds.left
