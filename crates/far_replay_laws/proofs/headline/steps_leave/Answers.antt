use Rattle.far_replay_laws.proofs.LeftBySteps.{steps_left}
use Rattle.far_replay_laws.proofs.headline.steps_leave.Goals as goal

pub returns : goal.returns
returns c = record { leave = steps_left }
