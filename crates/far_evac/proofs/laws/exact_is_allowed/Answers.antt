use Rattle.far_evac.proofs.laws.exact_is_allowed.Goals as goal
use Rattle.far_evac.proofs.Walks.{walk_is}

pub returns : goal.returns
returns c = walk_is
