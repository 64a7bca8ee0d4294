use Rattle.far_reserved.proofs.Putting.{put_is_there}
use Rattle.far_reserved.proofs.laws.what_is_put_is_there.Goals as goal

pub returns : goal.returns
returns c = put_is_there
