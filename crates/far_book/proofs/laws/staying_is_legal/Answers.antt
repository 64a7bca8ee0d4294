use Rattle.far_book.proofs.laws.staying_is_legal.Goals as goal
use Rattle.far_book.proofs.region.MovesReached.{staying}

pub returns : goal.returns
returns c = staying
