use Rattle.far_file.proofs.Mem.{put_is_there}
use Rattle.far_file.proofs.memory.what_is_put_is_there.Goals as goal

pub returns : goal.returns
returns c = put_is_there
