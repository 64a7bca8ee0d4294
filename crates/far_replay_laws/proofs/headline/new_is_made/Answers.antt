use Rattle.far_word.specs.declared.refused.Refused.TheVariants.{NoPointer, NoRoom}
use Rattle.far_replay.proofs.Outcomes.{is_served}
use Rattle.far_reply.specs.Reply.{Pointer, Refused}
use Rattle.far_text.specs.Command.{Mutator, New}
use Rattle.far_replay_laws.proofs.OutputLaws.{takes_lowest, none_left, is_made, makes_its_object}
use Rattle.far_replay_laws.proofs.TakingRoom.{commands_take}
use Rattle.far_replay_laws.proofs.headline.new_is_made.Goals as goal

pub returns : goal.returns
returns c = record {
  answer = λ now m len ds r after own structure some most h. is_made now m len ds r after own structure some most (is_served now (Mutator m (New len ds)) r after tt h);
  none = λ now m len ds after. let x = none_left now m len ds after in
      ((λ h. x.0 (is_served now (Mutator m (New len ds)) (Refused NoPointer) after tt h)), (λ h. x.1 (is_served now (Mutator m (New len ds)) (Refused NoRoom) after tt h)));
  lowest = λ now m len ds p after h. takes_lowest now m len ds p after (is_served now (Mutator m (New len ds)) (Pointer p) after tt h);
  object = λ now m len ds p after is h. makes_its_object now m len ds p after is (is_served now (Mutator m (New len ds)) (Pointer p) after tt h);
  takes = commands_take;
}
