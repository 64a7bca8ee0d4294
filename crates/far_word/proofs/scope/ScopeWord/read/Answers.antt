use Rattle.std.proofs.Common.{◌∙◌}
use Rattle.far_word.proofs.ScopeLaws.{scope_found, scope_only}
use Rattle.far_word.proofs.scope.ScopeWord.read.Goals as goal

pub returns-clause-found : goal.returns-clause-found
returns-clause-found c = rw c.decode.ensures (scope_found c.args.word)

pub returns-clause-only : goal.returns-clause-only
returns-clause-only c = λ s ok e. c.decode.ensures ∙ scope_only c.args.word s ok e
