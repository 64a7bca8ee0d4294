use Rattle.far_events.proofs.Words.{word_set}
use Rattle.far_events.proofs.memory.words.write_word.Goals as goal

pub returns-clause-word : goal.returns-clause-word
returns-clause-word c = word_set c.args.bytes.now c.write_u64.new.buf c.args.at c.args.word c.ranges.word.fits c.requires c.write_u64.ensures
