use Rattle.std.proofs.Common.{◌∙◌, ◌+◌, ◌/◌, ap, get_or, length}
use Rattle.far_events.specs.events.Ranges.{with_row}
use Rattle.far_events.specs.state.Memory.{state_of}
use Rattle.far_events.specs.events.Written.{written_words}
use Rattle.far_events.proofs.memory.Memory.store_bytes.Goals as goal

pub write_bytes-requires-clause-wide : goal.write_bytes-requires-clause-wide
write_bytes-requires-clause-wide c = c.requires.law.spans.word_fits

pub returns : goal.returns
returns c =
    let s = state_of c.args.self.now in let from = c.args.from in
    c.write_bytes.ensures
    ∙ ap (λ a. record s { word = with_row s.word (a + from / 8) (length (written_words (λ i. s.word (a + i)) from c.args.bytes.now)) (λ k. get_or (written_words (λ i. s.word (a + i)) from c.args.bytes.now) k 0) })
    c.first_data.ensures.is
