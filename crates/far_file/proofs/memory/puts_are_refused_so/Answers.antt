use Rattle.far_file.proofs.Mem.{put_is_refused}
use Rattle.far_file.proofs.memory.puts_are_refused_so.Goals as goal

pub returns : goal.returns
returns c = put_is_refused
