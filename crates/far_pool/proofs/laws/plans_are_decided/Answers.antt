use Rattle.far_pool.proofs.Layouts.{decided}
use Rattle.far_pool.proofs.laws.plans_are_decided.Goals as goal

pub returns : goal.returns
returns c = decided
