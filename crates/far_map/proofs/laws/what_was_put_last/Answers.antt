use Rattle.far_map.proofs.PutLast.{put_last}
use Rattle.far_map.proofs.laws.what_was_put_last.Goals as goal

pub returns : goal.returns
returns c = put_last
