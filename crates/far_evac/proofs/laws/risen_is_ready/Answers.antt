use Rattle.far_evac.proofs.laws.risen_is_ready.Goals as goal
use Rattle.far_evac.proofs.Readiness.{risen_is_ready}

pub returns : goal.returns
returns c = risen_is_ready
