use Rattle.std.proofs.Common.{◌≡◌, true}
use Rattle.far_events.specs.events.Get.{none_live}
use Rattle.far_events.specs.state.Memory.{state_of}
use Rattle.far_events.proofs.memory.Memory.none_live.Given as goal

abbrev pub invariant-loop-at : goal.invariant-loop-at
invariant-loop-at l = none_live (state_of l.self) l.log l.at ≡ true
