use Rattle.far_reserved.proofs.Putting.{put_is_refused}
use Rattle.far_reserved.proofs.laws.puts_are_refused_when_full.Goals as goal

pub returns : goal.returns
returns c = put_is_refused
