use Rattle.far_replay_laws.proofs.LeftBeside.{commands_beside}
use Rattle.far_replay_laws.proofs.left_beside.others_stay.Goals as goal

pub returns : goal.returns
returns c = record { stay = commands_beside }
