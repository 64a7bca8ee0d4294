use Rattle.std.proofs.Common.{◌≡◌, true}
use Rattle.far_events.specs.events.Get.{none_copied}
use Rattle.far_events.specs.state.Memory.{state_of}
use Rattle.far_events.proofs.memory.Memory.none_copied.Given as goal

abbrev pub invariant-loop-job : goal.invariant-loop-job
invariant-loop-job l = none_copied (state_of l.self).copying l.log l.job ≡ true
