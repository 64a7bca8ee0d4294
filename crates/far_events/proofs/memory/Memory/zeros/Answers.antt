use Rattle.std.proofs.Common.{sym, ◌∙◌}
use Rattle.far_events.specs.state.Memory.{state_of}
use Rattle.far_events.proofs.Zeros.{zeros_not}
use Rattle.far_events.proofs.memory.Memory.zeros.Goals as goal

pub returns-then-word-ne0 : goal.returns-then-word-ne0
returns-then-word-ne0 c = sym (zeros_not (state_of c.args.self.now).word c.args.from c.args.n c.loop-k.k c.loop-k-test.true (λ e. c.if-word-ne0.true (c.word.ensures ∙ e)))
