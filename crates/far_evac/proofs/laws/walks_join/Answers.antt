use Rattle.far_evac.proofs.laws.walks_join.Goals as goal
use Rattle.far_evac.proofs.Joined.{walks_join}

pub returns : goal.returns
returns c = walks_join
