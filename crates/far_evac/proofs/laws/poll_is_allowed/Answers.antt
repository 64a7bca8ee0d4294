use Rattle.far_evac.proofs.laws.poll_is_allowed.Goals as goal
use Rattle.far_evac.proofs.Rounds.{polls_is}

pub returns : goal.returns
returns c = polls_is
