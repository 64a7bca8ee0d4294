use Rattle.far_map.specs.Plain.{plain}
use Rattle.far_map.proofs.Growth.{grown_sound, grown_table}
use Rattle.far_map.proofs.grow.rebuild.Goals as goal

pub returns-clause-sound : goal.returns-clause-sound
returns-clause-sound c = λ f s. grown_sound (plain f c.args.near.now) _ _ s c.requires c.in_ok-slots.ensures

pub returns-clause-same : goal.returns-clause-same
returns-clause-same c = λ f s. grown_table (plain f c.args.near.now) _ _ s c.requires c.in_ok-slots.ensures
