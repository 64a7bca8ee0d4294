use Rattle.far_book.proofs.number_set.NumberSet.lowest.Goals as goal
use Rattle.std.proofs.Common.{arith, ap, ◌∙◌}
use Rattle.far_book.specs.book.NumberSet.{has}
use Rattle.far_book.proofs.region.NumberSets.{has_none, has_lowest}

pub returns-then-self-eq0 : goal.returns-then-self-eq0
returns-then-self-eq0 c k lt = ap (λ w. has record { word = w } k) c.if-self-eq0.true ∙ has_none k

pub returns-else-self-eq0 : goal.returns-else-self-eq0
returns-else-self-eq0 c = has_lowest c.args.self.word (omega arith) (omega arith)
