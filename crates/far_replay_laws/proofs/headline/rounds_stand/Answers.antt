use Rattle.far_replay_laws.proofs.Standing.{rounds_stand}
use Rattle.far_replay_laws.proofs.headline.rounds_stand.Goals as goal

pub returns : goal.returns
returns c = record { stand = rounds_stand }
