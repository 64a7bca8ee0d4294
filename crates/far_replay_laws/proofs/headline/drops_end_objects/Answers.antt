use Rattle.far_replay.proofs.Drops.{drop_ends_object}
use Rattle.far_replay.proofs.Outcomes.{is_served}
use Rattle.far_text.specs.Command.{Drop, Mutator}
use Rattle.far_replay_laws.proofs.headline.drops_end_objects.Goals as goal

pub returns : goal.returns
returns c = λ now m p r after law own h. drop_ends_object now m p r after law own (is_served now (Mutator m (Drop p)) r after tt h)
