use Rattle.far_book.proofs.number_set.NumberSet.none.Goals as goal
use Rattle.far_book.proofs.region.NumberSets.{has_none}

pub returns : goal.returns
returns c k = has_none k
