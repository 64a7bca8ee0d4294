use Rattle.far_events.specs.state.Words.{word_in}
use Rattle.far_events.proofs.Words.{zero_word}
use Rattle.far_events.proofs.Begins.{row_of}
use Rattle.far_events.proofs.memory.words.Words.new.Goals as goal

pub returns-clause-zeros : goal.returns-clause-zeros
unfolding word_in
returns-clause-zeros c =
    zero_word c.in_ok-zero_bytes.field-0.items (row_of _ _ 0 c.in_ok-zero_bytes.ensures.items)
