use Rattle.far_heap.proofs.Calls.{reads_give_last_writes}
use Rattle.far_heap.proofs.laws.reads_give_last_writes.Goals as goal

pub returns : goal.returns
returns c = reads_give_last_writes
