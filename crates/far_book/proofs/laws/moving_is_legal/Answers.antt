use Rattle.far_book.proofs.laws.moving_is_legal.Goals as goal
use Rattle.far_book.proofs.region.MovesReached.{moving}

pub returns : goal.returns
returns c = moving
