use Rattle.far_book.proofs.number_set.NumberSet.below.Goals as goal
use Rattle.std.proofs.Common.{sym, ap, ◌∙◌, arith, nat_lt, ◌<◌}
use Rattle.far_book.proofs.region.NumberSets.{has_below, has_shifted}

pub returns-then-end-eq64 : goal.returns-then-end-eq64
returns-then-end-eq64 c k lt = has_below 64 k ∙ sym (ap (nat_lt k) c.if-end-eq64.true)

pub returns-else-end-eq64 : goal.returns-else-end-eq64
returns-else-end-eq64 c k lt = let less : c.args.end < 64 = omega arith in has_shifted c.args.end k less
