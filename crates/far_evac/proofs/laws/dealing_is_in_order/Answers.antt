use Rattle.far_evac.proofs.laws.dealing_is_in_order.Goals as goal
use Rattle.far_evac.proofs.ComingBack.{come_back_empty}
use Rattle.far_evac.proofs.InOrder.{in_order}

pub returns : goal.returns
returns c = record { order = in_order; emptied = come_back_empty }
