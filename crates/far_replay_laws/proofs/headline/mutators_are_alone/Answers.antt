use Rattle.far_replay_laws.proofs.AloneFirst.{alone_first}
use Rattle.far_replay_laws.proofs.AloneLaw.{mutators_learn}
use Rattle.far_replay_laws.proofs.OutputLaws.{own_lines}
use Rattle.far_replay_laws.proofs.headline.mutators_are_alone.Goals as goal

pub returns : goal.returns
returns c = record { alone = alone_first; own = own_lines; learn = mutators_learn }
