use Rattle.far_private.specs.Objects.{state_in}
use Rattle.far_private.specs.Steps.{Keeps}
use Rattle.far_private.proofs.rooms.make_turns.Given as goal

abbrev pub invariant-loop : goal.invariant-loop
invariant-loop g l = Keeps (state_in l.fn.evac) (state_in l.evac)
