use Rattle.far_book.proofs.laws.sealed_logs_stay.Goals as goal
use Rattle.far_book.proofs.region.SealedKept.{sealed_logs_kept}

pub returns : goal.returns
returns c = sealed_logs_kept
