use Rattle.far_evac.proofs.laws.round_is_allowed.Goals as goal
use Rattle.far_evac.proofs.Rounds.{round_is, turn_is_allowed}

pub returns : goal.returns
returns c = record { turn = turn_is_allowed; whole = round_is }
