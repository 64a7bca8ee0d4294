use Rattle.far_word.proofs.PointerLaws.{read_back, word_fits, pointer_found}
use Rattle.far_word.proofs.laws.pointer_words.Goals as goal

pub returns-clause-back : goal.returns-clause-back
returns-clause-back c = λ v ok. (read_back v ok, word_fits v ok)

pub returns-clause-found : goal.returns-clause-found
returns-clause-found c = pointer_found
