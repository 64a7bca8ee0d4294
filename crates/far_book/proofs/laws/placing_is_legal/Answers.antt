use Rattle.far_book.proofs.laws.placing_is_legal.Goals as goal
use Rattle.far_book.proofs.region.Reaching.{placing_legal}

pub returns : goal.returns
returns c = placing_legal
