use Rattle.far_replay_laws.proofs.OutputLaws.{changes_range}
use Rattle.far_replay_laws.proofs.headline.writes_change_their_range.Goals as goal

pub returns : goal.returns
returns c = changes_range
