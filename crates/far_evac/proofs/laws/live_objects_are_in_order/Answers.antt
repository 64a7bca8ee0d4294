use Rattle.far_evac.proofs.laws.live_objects_are_in_order.Goals as goal
use Rattle.far_evac.proofs.LiveOrder.{live_in_order}

pub returns : goal.returns
returns c = live_in_order
