use Rattle.far_replay_laws.proofs.AgesKept.{ages_stay}
use Rattle.far_replay_laws.proofs.EpochsSpent.{steps_spend}
use Rattle.far_replay_laws.proofs.TurnsTell.{steps_told}
use Rattle.far_replay_laws.proofs.headline.steps_are_told.Goals as goal

pub returns : goal.returns
returns c = record { told = steps_told; ages = ages_stay; epochs = steps_spend }
