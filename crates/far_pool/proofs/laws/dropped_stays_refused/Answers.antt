use Rattle.far_pool.proofs.Counts.{stays_refused}
use Rattle.far_pool.proofs.laws.dropped_stays_refused.Goals as goal

pub returns : goal.returns
returns c = stays_refused
