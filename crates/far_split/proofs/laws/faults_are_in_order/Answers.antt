use Rattle.far_split.proofs.FaultRows.{in_order}
use Rattle.far_split.proofs.laws.faults_are_in_order.Goals as goal

pub returns : goal.returns
returns c = in_order
