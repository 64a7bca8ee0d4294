use Rattle.far_core.proofs.Leaving.{events_leave}
use Rattle.far_core.proofs.machine.laws.events_leave_others.Goals as goal

pub returns : goal.returns
returns c = events_leave
