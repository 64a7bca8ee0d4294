use Rattle.far_replay_laws.proofs.AllSaid.{outputs_sound, texts_say_all}
use Rattle.far_replay_laws.proofs.headline.outputs_are_sound.Goals as goal

pub returns : goal.returns
returns c = record { sound = outputs_sound; each = texts_say_all }
