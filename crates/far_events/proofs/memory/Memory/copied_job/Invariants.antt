use Rattle.std.proofs.Common.{◌≡◌}
use Rattle.far_events.specs.events.Copied.{copied_below}
use Rattle.far_events.specs.state.Memory.{state_of}
use Rattle.far_events.proofs.memory.Memory.copied_job.Given as goal

abbrev pub invariant-loop-job : goal.invariant-loop-job
invariant-loop-job l = l.found ≡ copied_below (state_of l.self) l.pointer l.from l.to l.job
