use Rattle.far_heap.proofs.ValueLaws.{values_come_back}
use Rattle.far_heap.proofs.laws.values_come_back.Goals as goal

pub returns : goal.returns
returns c = values_come_back
