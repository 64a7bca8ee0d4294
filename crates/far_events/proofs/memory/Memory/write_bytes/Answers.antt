use Rattle.std.proofs.Common.{◌∙◌, ℕ, ap}
use Rattle.far_events.specs.state.Memory.{state_of}
use Rattle.far_events.specs.state.Words.{word_in}
use Rattle.far_events.proofs.Splices.{written_row}
use Rattle.far_events.proofs.memory.Memory.write_bytes.Goals as goal

pub returns : goal.returns
unfolding state_of
returns c = ap (λ (f : ℕ → ℕ). record (state_of c.args.self.now) { word = f })
    (c.write.ensures.words ∙ written_row (word_in c.args.self.now.words) c.args.first c.args.from c.args.bytes.now c.requires.wide)
