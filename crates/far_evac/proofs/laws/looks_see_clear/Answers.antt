use Rattle.far_evac.proofs.laws.looks_see_clear.Goals as goal
use Rattle.far_evac.proofs.Readiness.{looks_see_clear}

pub returns : goal.returns
returns c = looks_see_clear
