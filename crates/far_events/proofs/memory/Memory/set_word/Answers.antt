use Rattle.std.proofs.Common.{ℕ, ap}
use Rattle.far_events.specs.state.Memory.{state_of}
use Rattle.far_events.proofs.memory.Memory.set_word.Goals as goal

pub returns : goal.returns
unfolding state_of
returns c = ap (λ (f : ℕ → ℕ). record (state_of c.args.self.now) { word = f }) c.set.ensures.word
