use Rattle.std.proofs.Common.{◌∙◌}
use Rattle.far_text.specs.Cursor.{words_left}
use Rattle.far_text.proofs.Cuts.{word_at, word_stops}
use Rattle.far_text.proofs.cursor.word_first.Goals as goal

pub returns-clause-words : goal.returns-clause-words
returns-clause-words c =
    let words = rw c.unwrap.ensures at c.rest_at.ensures.words in
    word_stops c.args.text.now c.word_len-len.result (words_left c.unwrap.result) c.word_len-len.ensures.bound c.word_len-len.ensures.inside words

pub returns-clause-lines : goal.returns-clause-lines
returns-clause-lines c =
    let lines = rw c.unwrap.ensures at c.rest_at.ensures.lines in
    (word_at c.args.text.now c.word_len-len.result c.word_len-len.ensures.bound c.word_len-len.ensures.inside).1 ∙ lines
