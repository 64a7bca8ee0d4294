use Rattle.std.proofs.Common.{◌+◌, ℕ, ap, sym, ◌∙◌}
use Rattle.far_events.specs.state.Memory.{state_of}
use Rattle.far_events.proofs.Copies.{alike_not}
use Rattle.far_events.proofs.memory.Memory.has_stored.Goals as goal

pub returns-then-word-stored : goal.returns-then-word-stored
returns-then-word-stored c = sym (alike_not (λ i. (state_of c.args.self.now).word (c.args.at + i)) ((state_of c.args.self.now).stored c.args.pointer) c.args.count c.loop-k.k c.loop-k-test.true
    (λ e. c.if-word-stored.true (c.word.ensures ∙ e ∙ sym (c.word-stored.ensures ∙ ap (λ (f : ℕ → ℕ → ℕ). f c.args.pointer c.loop-k.k) c.requires.rows))))
