-- What commands that are no steps of the evacuator leave of a round: all of it, but that objects may leave the chosen logs.
use Rattle.std.specs.Prelude.{◌≡◌, ◌↔◌, ℕ, Some}
use Rattle.far_word.specs.declared.mark.Marks.{Marks}
use Rattle.far_word.specs.declared.pointer.Place.{Place}
use Rattle.far_word.specs.declared.pointer.PtrWord.TheVariants.{Near}
use Rattle.far_word.specs.Pointer.{read_of}
use Rattle.far_text.specs.Command.{Command, Mutator, Book, Evacuator}
use Rattle.far_replay.specs.Answers.{Commanded, IsMoment}
use Rattle.far_replay.specs.Moment.{Moment}
use Rattle.far_reply.specs.Reply.{Reply}
use Rattle.far_replay_laws.specs.Steps.{IsChosen}

-- the phase stays, and so does the collection set, in its order, and which are chosen, as `log` prints it; the logs of the core's round and its epoch, and
-- that of the heap; who was seen clear stays so, and nobody else is, whichever scope opens or closes. Nothing comes to lie in a chosen log, and what lies there
-- lay there, and has EVAC exactly where it had it
pub record RoundStands (now after : Moment) : Type 0 where
  pub phase : after.phase ≡ now.phase
  pub collection : after.collection ≡ now.collection
  pub chosen : (l : ℕ) → IsChosen after l ↔ IsChosen now l
  pub logs : (l : ℕ) → after.core.round l ≡ now.core.round l
  pub epoch : after.core.round_epoch ≡ now.core.round_epoch
  pub heap : after.core.epoch ≡ now.core.epoch
  pub seen : (m : ℕ) → after.core.clear m ≡ now.core.clear m
  pub none_comes : (p len ds : ℕ) (place : Place) (marks : Marks) → IsChosen now place.log → read_of (after.core.cell p) ≡ Some (Near len ds place marks) →
      (old : Marks) × (read_of (now.core.cell p) ≡ Some (Near len ds place old)) × (marks.evac ≡ old.evac)

-- so it is through a command that is no step
abbrev pub Stands : Moment → Command → Moment → Type 0
Stands now (Mutator m request) after = RoundStands now after
Stands now (Book inquiry) after = RoundStands now after
Stands now (Evacuator step) after = Unit {0}

abbrev pub RoundsStand : Type 0
RoundsStand = (now : Moment) (c : Command) (r : Reply) (after : Moment) → IsMoment now → Commanded now c r after → Stands now c after
