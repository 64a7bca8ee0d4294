use Rattle.std.proofs.Common.{◌≡◌, cond, nat_lt}
use Rattle.far_events.specs.events.Advance.{is_among}
use Rattle.far_events.specs.state.Memory.{state_of}
use Rattle.far_events.proofs.memory.Memory.choose.Given as goal

abbrev pub invariant-loop-log : goal.invariant-loop-log
invariant-loop-log l = state_of l.self ≡ record (state_of l.fn.self) { round = λ k. cond (nat_lt k l.log) (is_among l.logs k) ((state_of l.fn.self).round k) }
