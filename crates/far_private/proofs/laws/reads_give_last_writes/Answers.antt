use Rattle.far_private.proofs.Histories.{last_written, reads_last, reads_said}
use Rattle.far_private.proofs.laws.reads_give_last_writes.Goals as goal

pub returns : goal.returns
returns c = record { written = last_written; read = reads_last; said = reads_said }
