use Rattle.far_book.proofs.number_set.NumberSet.is_empty.Goals as goal
use Rattle.std.proofs.Common.{ap, arith, ◌∙◌}
use Rattle.std.proofs.lemmas.Bool.{eq-eqb, eqb-true}
use Rattle.far_book.specs.book.NumberSet.{has}
use Rattle.far_book.proofs.region.NumberSets.{has_none, none_word}

pub returns-clause-empty : goal.returns-clause-empty
returns-clause-empty c e k = ap (λ w. has record { word = w } k) (eqb-true c.args.self.word 0 e) ∙ has_none k

pub returns-clause-none : goal.returns-clause-none
returns-clause-none c none = eq-eqb c.args.self.word 0 (none_word c.args.self.word (omega arith) none)
