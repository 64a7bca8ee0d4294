use Rattle.far_book.proofs.laws.retiring_is_legal.Goals as goal
use Rattle.far_book.proofs.region.Reaching.{retiring}

pub returns : goal.returns
returns c = retiring
