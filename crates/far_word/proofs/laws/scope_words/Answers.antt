use Rattle.far_word.proofs.ScopeLaws.{scope_back, scope_fits, scope_found}
use Rattle.far_word.proofs.laws.scope_words.Goals as goal

pub returns-clause-back : goal.returns-clause-back
returns-clause-back c = λ s ok. (scope_back s ok, scope_fits s ok)

pub returns-clause-found : goal.returns-clause-found
returns-clause-found c = scope_found
