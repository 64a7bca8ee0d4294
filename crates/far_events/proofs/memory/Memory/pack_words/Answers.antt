use Rattle.std.proofs.Common.{◌∙◌, ◌*◌, ℕ, ap, arith, take}
use Rattle.far_events.specs.state.Memory.{state_of}
use Rattle.far_events.specs.state.Words.{word_in}
use Rattle.far_word.specs.Bytes.{packed_word}
use Rattle.far_events.proofs.PackedRows.{packs_front}
use Rattle.far_events.proofs.Rows.{row_same}
use Rattle.far_events.proofs.memory.Memory.pack_words.Goals as goal

pub returns : goal.returns
unfolding state_of
returns c = ap (λ (f : ℕ → ℕ). record (state_of c.args.self.now) { word = f })
    (c.put.ensures.words ∙ row_same (word_in c.args.self.now.words) c.args.from c.args.count (packed_word (take (8 * c.args.count) c.args.bytes.now)) (packed_word c.args.bytes.now)
    (λ i lt. packs_front c.args.bytes.now (8 * c.args.count) i (omega arith)))
