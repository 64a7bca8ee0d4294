-- All that is promised of each command of a text: what the laws a command each say, together.
use Rattle.std.specs.Prelude.{◌≡◌, ℕ, ◌<◌, ◌≤◌, true, false, Ok, List, ◌∷◌, Option, None, All}
use Rattle.far_word.specs.declared.refused.Refused.{Refused as Refusal}
use Rattle.far_word.specs.declared.sizes.TheConstants.{LONGEST}
use Rattle.far_events.specs.events.Step.{is_opened}
use Rattle.far_events.specs.state.Shape.{is_shape}
use Rattle.far_text.specs.Command.{Command, Heap, New, Open, Close, Where, Drop, Try, Epoch, Logs as AsksLogs, Log, Mutator, Book, Evacuator, Step, Device}
use Rattle.far_text.specs.Grammar.{trace_of}
use Rattle.far_replay.specs.Answers.{Answers, first_moment, is_true, shape_of}
use Rattle.far_replay.specs.Commanded.{KeepsFar}
use Rattle.far_replay.specs.Moment.{Moment}
use Rattle.far_alone.specs.Objects.{uses}
use Rattle.far_reply.specs.Reply.{Reply, Done, Pointer, Refused}
use Rattle.far_replay.specs.Stays.{Stays}
use Rattle.far_replay_laws.specs.Along.{AllAlong}
use Rattle.far_replay_laws.specs.Ages.{KeepsAges}
use Rattle.far_replay_laws.specs.Epochs.{StepSpends}
use Rattle.far_replay_laws.specs.Headline.{AnswersDrop, AnswersEpoch, AnswersLog, AnswersNew, AnswersTry, AnswersWhere, IsAtHandFor, IsLowest, IsSound, MakesObject, MayRefuse, OpensAt, TakesRoom, TellsAll, ViewsAfter}
use Rattle.far_replay_laws.specs.FromOutside.{HasRoomFor, IsFarFor}
use Rattle.far_replay_laws.specs.LeftBeside.{LeavesBeside}
use Rattle.far_replay_laws.specs.LeftMarks.{LeavesMarks, ViewedAreHot}

-- of one command, its reply and the moment after it: what is asked for and told; which views there are then, and which marks; what it leaves beside; what it takes of the logs; in
-- which order logs were sealed; which epoch a step spends; what a refusal leaves, and which may come where the object is at hand
pub record Said (now : Moment) (c : Command) (r : Reply) (after : Moment) : Type 0 where
  pub new : (m len ds : ℕ) → c ≡ Mutator m (New len ds) → m < now.core.mutators → ds < 256 → 0 < len → len ≤ LONGEST → AnswersNew now m len r
  pub lowest : (m len ds p : ℕ) → c ≡ Mutator m (New len ds) → r ≡ Pointer p → IsLowest now m p
  pub made : (m len ds p : ℕ) → c ≡ Mutator m (New len ds) → r ≡ Pointer p → MakesObject now m len ds p after
  pub place : (m p : ℕ) → c ≡ Mutator m (Where p) → m < now.core.mutators → AnswersWhere now m p r
  pub epoch : (m : ℕ) → c ≡ Mutator m Epoch → m < now.core.mutators → AnswersEpoch now m r after
  pub opens : (m : ℕ) → c ≡ Mutator m Open → m < now.core.mutators → is_opened now.core m ≡ false → OpensAt now m r after
  pub forgets : (m : ℕ) → c ≡ Mutator m Close → r ≡ Done → after.core.remembered m ≡ None
  pub tries : (m p : ℕ) → c ≡ Mutator m (Try p) → m < now.core.mutators → is_opened now.core m ≡ true → uses now.core m p ≡ true → AnswersTry now m p r after
  pub drops : (m p : ℕ) → c ≡ Mutator m (Drop p) → m < now.core.mutators → AnswersDrop now m p r after
  pub log : (l : ℕ) → c ≡ Book (Log l) → AnswersLog now l r
  pub logs : c ≡ Book AsksLogs → TellsAll now r
  pub views : ViewsAfter now.core c r after.core
  pub marks : LeavesMarks now.core c r after.core
  pub beside : LeavesBeside now c r after
  pub room : TakesRoom now c r after
  pub ages : KeepsAges now c after
  pub spends : (step : Step) → c ≡ Evacuator step → StepSpends now step r after
  pub stays : (why : Refusal) → r ≡ Refused why → Stays c why now after
  pub far : (why : Refusal) → r ≡ Refused why → KeepsFar why → IsFarFor now.core c × IsFarFor after.core c × HasRoomFor now.core c
  pub causes : (why : Refusal) → IsAtHandFor now c → r ≡ Refused why → MayRefuse c why

abbrev pub AllSaid : Moment → List Command → List Reply → List Moment → Type 0
AllSaid = AllAlong Said

-- of each text that is read as a heap in range and commands: its output is sound; of each command of that same reading all this is so; and in each of its moments what is viewed has HOT
abbrev pub TextsSayAll : Type 0
TextsSayAll = (text output : List ℕ) (logs mutators epoch : ℕ) (device : Option Device) (cs : List Command) → Answers text output → trace_of text ≡ Ok (Heap logs mutators epoch device cs) → is_shape (shape_of logs mutators epoch) ≡ true →
    (x : IsSound logs mutators epoch device cs output) × AllSaid (first_moment logs mutators epoch (is_true device)) cs x.replies x.moments × All (λ (now : Moment). ViewedAreHot now.core) (first_moment logs mutators epoch (is_true device) ∷ x.moments)
