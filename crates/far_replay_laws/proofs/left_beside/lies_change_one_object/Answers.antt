use Rattle.far_replay_laws.proofs.GivenBytes.{lies_change}
use Rattle.far_replay_laws.proofs.left_beside.lies_change_one_object.Goals as goal

pub returns : goal.returns
returns c = record { changes = lies_change }
