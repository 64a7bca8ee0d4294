use Rattle.far_replay.proofs.Outcomes.{is_served}
use Rattle.far_text.specs.Command.{Book, Logs}
use Rattle.far_replay_laws.proofs.OutputLaws.{logs_tell}
use Rattle.far_replay_laws.proofs.headline.logs_are_told.Goals as goal

pub returns : goal.returns
returns c = λ now r after law h. logs_tell now r after law (is_served now (Book Logs) r after tt h)
