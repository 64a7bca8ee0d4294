use Rattle.std.proofs.Common.{◌≡◌, ◌+◌, true}
use Rattle.far_events.specs.events.Copies.{alike}
use Rattle.far_events.specs.state.Memory.{state_of}
use Rattle.far_events.proofs.memory.Memory.has_stored.Given as goal

abbrev pub invariant-loop-k : goal.invariant-loop-k
invariant-loop-k l = alike (λ i. (state_of l.self).word (l.at + i)) ((state_of l.self).stored l.pointer) l.k ≡ true
