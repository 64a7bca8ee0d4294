use Rattle.std.proofs.Common.{◌≡◌, true}
use Rattle.far_events.specs.events.Advance.{all_marked}
use Rattle.far_events.specs.state.Memory.{state_of}
use Rattle.far_events.proofs.memory.Memory.all_marked.Given as goal

abbrev pub invariant-loop-pointer : goal.invariant-loop-pointer
invariant-loop-pointer l = all_marked (state_of l.self) l.logs l.pointer ≡ true
