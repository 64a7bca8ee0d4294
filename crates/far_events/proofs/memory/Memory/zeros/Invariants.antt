use Rattle.std.proofs.Common.{◌≡◌, true}
use Rattle.far_events.specs.events.Step.{zeros}
use Rattle.far_events.specs.state.Memory.{state_of}
use Rattle.far_events.proofs.memory.Memory.zeros.Given as goal

abbrev pub invariant-loop-k : goal.invariant-loop-k
invariant-loop-k l = zeros (state_of l.self).word l.from l.k ≡ true
