use Rattle.far_replay.proofs.Outcomes.{is_served}
use Rattle.far_text.specs.Command.{Mutator, Try}
use Rattle.far_replay_laws.proofs.Tries.{tries_answered}
use Rattle.far_replay_laws.proofs.ViewLaws.{views_last, logs_stay}
use Rattle.far_replay_laws.proofs.headline.views_last.Goals as goal

pub returns : goal.returns
returns c = record { last = views_last; tried = λ now m p r after law own opened used h. tries_answered now m p r after law own opened used (is_served now (Mutator m (Try p)) r after tt h); stay = logs_stay }
