use Rattle.far_evac.proofs.laws.giving_up_is_right.Goals as goal
use Rattle.far_evac.proofs.Marks.{is_given_up}

pub returns : goal.returns
returns c = is_given_up
