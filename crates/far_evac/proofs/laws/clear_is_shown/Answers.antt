use Rattle.far_evac.proofs.laws.clear_is_shown.Goals as goal
use Rattle.far_evac.proofs.Readiness.{clear_is_shown}

pub returns : goal.returns
returns c = clear_is_shown
