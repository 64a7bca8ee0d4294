use Rattle.far_book.proofs.laws.releasing_is_legal.Goals as goal
use Rattle.far_book.proofs.region.ReleasingLaw.{releasing}

pub returns : goal.returns
returns c = releasing
