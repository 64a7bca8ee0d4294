use Rattle.std.proofs.Common.{◌∙◌, ◌+◌, ◌/◌, ap, get_or, length}
use Rattle.far_events.specs.events.Accesses.{with_cell, written_word}
use Rattle.far_events.specs.events.Ranges.{with_row}
use Rattle.far_events.specs.events.Written.{written_words}
use Rattle.far_events.specs.state.Memory.{state_of}
use Rattle.far_events.specs.state.State.{State}
use Rattle.far_events.proofs.memory.Memory.write_over.Goals as goal

pub returns : goal.returns
returns c =
    let s = state_of c.args.self.now in let p = c.args.pointer in let from = c.args.from in let bs = c.args.bytes.now in
    let first = c.data_at_rest-first.result in
    c.write_bytes.ensures
    ∙ ap (λ (u : State). record u { word = with_row u.word (first + from / 8) (length (written_words (λ i. u.word (first + i)) from bs)) (λ k. get_or (written_words (λ i. u.word (first + i)) from bs) k 0) }) c.mark_written.ensures
    ∙ ap (λ a. record (with_cell s p (written_word (s.cell p))) { word = with_row s.word (a + from / 8) (length (written_words (λ i. s.word (a + i)) from bs)) (λ k. get_or (written_words (λ i. s.word (a + i)) from bs) k 0) })
    c.data_at_rest-first.ensures.is
