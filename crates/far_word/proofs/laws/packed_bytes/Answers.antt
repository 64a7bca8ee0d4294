use Rattle.far_word.proofs.ByteLaws.{bytes_of-words_of, words_of-bytes_of, packs_back, read_written, read_other, length-with_word, with_word-small}
use Rattle.far_word.proofs.laws.packed_bytes.Goals as goal

pub returns-clause-bytes_back : goal.returns-clause-bytes_back
returns-clause-bytes_back c = bytes_of-words_of

pub returns-clause-words_back : goal.returns-clause-words_back
returns-clause-words_back c = λ word n i lt fits pad. (words_of-bytes_of word n i lt fits pad, packs_back word n i fits pad)

pub returns-clause-written : goal.returns-clause-written
returns-clause-written c = λ bytes i w small inside fits pad. (read_written bytes i w small fits pad, λ j ne. read_other bytes i w j ne, length-with_word bytes i w, with_word-small bytes i w small)
