use Rattle.std.proofs.Common.{◌≡◌, true}
use Rattle.far_events.specs.events.Tasks.{all_written}
use Rattle.far_events.specs.state.Memory.{state_of}
use Rattle.far_events.proofs.memory.Memory.all_written.Given as goal

abbrev pub invariant-loop-index : goal.invariant-loop-index
invariant-loop-index l = all_written ((state_of l.self).copying.written l.copier) l.index ≡ true
