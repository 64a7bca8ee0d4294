use Rattle.far_evac.proofs.laws.waiting_stays.Goals as goal
use Rattle.far_evac.proofs.Waits.{waiting_stays}

pub returns : goal.returns
returns c = waiting_stays
