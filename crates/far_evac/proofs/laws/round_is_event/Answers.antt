use Rattle.far_evac.proofs.laws.round_is_event.Goals as goal
use Rattle.far_evac.proofs.Readiness.{round_is_event}

pub returns : goal.returns
returns c = round_is_event
