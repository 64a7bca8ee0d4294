use Rattle.far_book.proofs.laws.fetching_is_legal.Goals as goal
use Rattle.far_book.proofs.region.ReachingFar.{fetching}

pub returns : goal.returns
returns c = fetching
