use Rattle.std.proofs.Common.{◌+◌, sym, ◌∙◌}
use Rattle.far_events.specs.state.Memory.{state_of}
use Rattle.far_events.proofs.Copies.{alike_not}
use Rattle.far_events.proofs.memory.Memory.has_copy.Goals as goal

pub returns-then-word : goal.returns-then-word
returns-then-word c = sym (alike_not (λ i. (state_of c.args.self.now).word (c.args.at + i)) (λ i. (state_of c.args.self.now).word (c.args.from + i)) c.args.count c.loop-k.k c.loop-k-test.true (λ e. c.if-word.true (c.word.ensures ∙ e ∙ sym c.word-in-loop-k.ensures)))
