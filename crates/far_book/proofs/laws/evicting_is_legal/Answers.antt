use Rattle.far_book.proofs.laws.evicting_is_legal.Goals as goal
use Rattle.far_book.proofs.region.EvictingLaw.{evicting}

pub returns : goal.returns
returns c = evicting
