use Rattle.far_pool.proofs.Histories.{reads_last}
use Rattle.far_pool.proofs.laws.reads_give_last_writes.Goals as goal

pub returns : goal.returns
returns c = reads_last
