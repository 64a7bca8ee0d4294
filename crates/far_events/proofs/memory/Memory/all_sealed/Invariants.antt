use Rattle.std.proofs.Common.{◌≡◌, true}
use Rattle.far_events.specs.events.Advance.{all_sealed}
use Rattle.far_events.specs.state.Memory.{state_of}
use Rattle.far_events.proofs.memory.Memory.all_sealed.Given as goal

abbrev pub invariant-loop-log : goal.invariant-loop-log
invariant-loop-log l = all_sealed (state_of l.self) l.logs l.log ≡ true
