-- What steps of the evacuator tell, by the moments before and after each: how many objects and logs have changed so, and which logs were chosen.
use Rattle.std.specs.Prelude.{◌≡◌, ◌≢◌, ◌↔◌, ◌⊎◌, ℕ, ◌+◌, ◌*◌, ◌<◌, ◌≤◌, Bool, true, false, Option, Some, None, List, [], ◌∷◌, length, map, option_map, take, drop, Ok, Err, if◌then◌else◌}
use Rattle.far_word.specs.declared.mark.Marks.{Marks}
use Rattle.far_word.specs.declared.pointer.Place.{Place}
use Rattle.far_word.specs.declared.pointer.PtrWord.TheVariants as pointer
use Rattle.far_word.specs.declared.refused.Refused.{Refused as Refusal}
use Rattle.far_word.specs.declared.refused.Refused.TheVariants.{BadChoice, EpochsSpent, Phase as WrongPhase, StillOpen}
use Rattle.far_word.specs.declared.sizes.TheConstants.{EPOCH_END}
use Rattle.far_word.specs.Pointer.{read_of, without_evac}
use Rattle.far_word.specs.Sizes.{size_of}
use Rattle.far_log.specs.declared.row.LogRow.{LogRow}
use Rattle.far_policy.specs.LeastLive.{TakesLeast}
use Rattle.far_policy.specs.Logs.{logs_of}
use Rattle.far_policy.specs.Scripted.{FollowsScript}
use Rattle.far_core.specs.state.Room.{room}
use Rattle.far_events.specs.state.State.{State}
use Rattle.far_book.specs.book.Rows.{row_of}
use Rattle.far_evac.specs.Census.{kind_in}
use Rattle.far_evac.specs.LiveLaws.{IsBehind}
use Rattle.far_evac.specs.declared.answers.Progress.{Progress}
use Rattle.far_evac.specs.declared.answers.RoundEnd.{RoundEnd}
use Rattle.far_evac.specs.declared.answers.RoundEnd.TheVariants as ends
use Rattle.far_evac.specs.declared.census.LogKind.TheVariants as kinds
use Rattle.far_evac.specs.declared.phase.Phase.{Phase}
use Rattle.far_evac.specs.declared.phase.Phase.TheVariants.{Idle, Marking, Waiting, Evacuating}
use Rattle.far_text.specs.Command.{Command, Evacuator, Choice, By, Script, Oldest, LeastLive, Policy, Step, Select, Mark, Wait, Evacuate, Abort, Round}
use Rattle.far_replay.specs.Answers.{Commanded, IsMoment, Served}
use Rattle.far_replay_laws.specs.HowMany.{IsHowMany}
use Rattle.far_replay.specs.Moment.{Moment}
use Rattle.far_reply.specs.Reply.{Reply, Done, Selected, Marked, Clear, Evacuated, Ended, Refused, Halted}
use Rattle.far_replay_laws.specs.Along.{AllAlong}

-- ---- where an object is
-- its cell names a place in a log; and has EVAC, or hasn't
abbrev pub LiesIn : State → ℕ → ℕ → Type 0
LiesIn s p l = (len ds : ℕ) × (place : Place) × (marks : Marks) × (read_of (s.cell p) ≡ Some (pointer.Near len ds place marks)) × (place.log ≡ l)

abbrev pub IsNear : State → ℕ → Type 0
IsNear s p = (l : ℕ) × LiesIn s p l

abbrev pub ShowsEvac : State → ℕ → Bool → Type 0
ShowsEvac s p evac = (len ds : ℕ) × (place : Place) × (marks : Marks) × (read_of (s.cell p) ≡ Some (pointer.Near len ds place marks)) × (marks.evac ≡ evac)

abbrev pub IsFar : State → ℕ → Type 0
IsFar s p = (len ds : ℕ) × (marks : Marks) × (read_of (s.cell p) ≡ Some (pointer.Far len ds marks))

-- it lies at this place; and with EVAC, or without
abbrev pub IsAt : State → ℕ → Place → Type 0
IsAt s p place = (len ds : ℕ) × (marks : Marks) × (read_of (s.cell p) ≡ Some (pointer.Near len ds place marks))

abbrev pub LiesAt : State → ℕ → Place → Bool → Type 0
LiesAt s p place evac = (len ds : ℕ) × (marks : Marks) × (read_of (s.cell p) ≡ Some (pointer.Near len ds place marks)) × (marks.evac ≡ evac)

-- a place comes before another in some logs: its log stands sooner among them, or is the same one, and it is a lower word
abbrev pub StandsFirst : List ℕ → Place → Place → Type 0
StandsFirst logs at to = ((at.log ≡ to.log) × (at.at < to.at)) ⊎ IsBehind logs at.log to.log

-- ---- what has become of it from s to t
abbrev pub GainsEvac : State → State → ℕ → Type 0
GainsEvac s t p = ShowsEvac s p false × ShowsEvac t p true

-- it lies in another log
abbrev pub IsMoved : State → State → ℕ → Type 0
IsMoved s t p = (l k : ℕ) × LiesIn s p l × LiesIn t p k × (k ≢ l)

abbrev pub IsSentFar : State → State → ℕ → Type 0
IsSentFar s t p = IsNear s p × IsFar t p

-- its cell is free
abbrev pub IsRetired : State → State → ℕ → Type 0
IsRetired s t p = IsNear s p × (read_of (t.cell p) ≡ Some pointer.Free)

-- ---- which logs a round holds, as `log` prints it
abbrev pub IsChosen : Moment → ℕ → Type 0
IsChosen now l = kind_in now l ≡ kinds.Chosen

-- it was given back: it is chosen no more, and out of the core's round
abbrev pub IsGivenBack : Moment → Moment → ℕ → Type 0
IsGivenBack now after l = IsChosen now l × (kind_in after l ≢ kinds.Chosen) × (after.core.round l ≡ false)

-- ---- which logs a choice takes of the sealed ones, oldest first
abbrev pub sealed_rows : Moment → List LogRow
sealed_rows now = map (row_of now.core) now.order

abbrev pub Takes : Moment → Choice → ℕ → List ℕ → Type 0
Takes now (By Oldest) most logs = logs ≡ take most now.order
Takes now (By LeastLive) most logs = (rows : List LogRow) × TakesLeast (sealed_rows now) most rows × (logs ≡ logs_of rows)
Takes now (Script named) most logs = FollowsScript (sealed_rows now) most named (Ok logs)

-- these logs are chosen then, and no word has changed
pub record TellsChoice (now : Moment) (choice : Choice) (most : ℕ) (logs : List ℕ) (after : Moment) : Type 0 where
  pub takes : Takes now choice most logs
  pub collection : after.collection ≡ logs
  pub core : after.core ≡ now.core

-- ---- marking
-- an object of the chosen logs is left without EVAC, and the epoch stays; or none is, and the epoch that is told was reached
abbrev pub ReachesEpoch : Moment → ℕ → ℕ → Option ℕ → Moment → Type 0
ReachesEpoch now count marked None after =
    (after.core.epoch ≡ now.core.epoch) × (marked ≡ count) × ((p l : ℕ) × IsChosen now l × LiesIn after.core p l × ShowsEvac after.core p false)
ReachesEpoch now count marked (Some epoch) after =
    (after.core.epoch ≡ epoch) × (epoch ≡ now.core.epoch + 1) × ((p l : ℕ) → IsChosen now l → LiesIn after.core p l → ShowsEvac after.core p true)

pub record TellsMarks (now : Moment) (count marked : ℕ) (waiting : Option ℕ) (after : Moment) : Type 0 where
  pub gained : IsHowMany (GainsEvac now.core after.core) marked
  pub most : marked ≤ count
  -- those that gained it stand before all that lack it then
  pub order : (p q : ℕ) (at to : Place) → GainsEvac now.core after.core p → LiesAt after.core p at true → LiesAt after.core q to false → IsChosen now to.log → StandsFirst now.collection at to
  pub epoch : ReachesEpoch now count marked waiting after

-- ---- waiting
-- of the mutators below a number, or of all, nobody who wasn't seen clear before has a scope that is open from before the round
abbrev pub NobodyBelow : ℕ → State → Type 0
NobodyBelow n s = (m epoch : ℕ) → m < n → s.clear m ≡ false → s.scope m ≡ 2 * epoch + 1 → s.round_epoch ≤ epoch

abbrev pub NobodyHoldsUp : State → Type 0
NobodyHoldsUp s = NobodyBelow s.mutators s

-- this mutator, who wasn't, has, and nobody before it
pub record HoldsUp (s : State) (m epoch : ℕ) : Type 0 where
  pub known : m < s.mutators
  pub unseen : s.clear m ≡ false
  pub open_at : s.scope m ≡ 2 * epoch + 1
  pub older : epoch < s.round_epoch
  pub first : NobodyBelow m s

-- ---- leaving
-- the counts are of what has changed so; as many objects have left as were asked for, unless each log was given back
pub record TellsLeaving (now : Moment) (count : ℕ) (progress : Progress) (after : Moment) : Type 0 where
  pub moved : IsHowMany (IsMoved now.core after.core) progress.moved
  pub far : IsHowMany (IsSentFar now.core after.core) progress.far
  pub dropped : IsHowMany (IsRetired now.core after.core) progress.dropped
  pub freed : IsHowMany (IsGivenBack now after) progress.freed
  pub most : progress.moved + progress.far + progress.dropped ≤ count
  pub enough : progress.done ≡ false → progress.moved + progress.far + progress.dropped ≡ count
  pub done : (progress.done ≡ true) ↔ ((l : ℕ) → kind_in after l ≢ kinds.Chosen)
  -- logs are given back from the front on, and the one that is in front then has an object; those that have left stood before all that lie there still
  pub collection : after.collection ≡ drop progress.freed now.collection
  pub begins : (l : ℕ) (ls : List ℕ) → after.collection ≡ l ∷ ls → (p : ℕ) × LiesIn after.core p l
  pub order : (p q : ℕ) (at to : Place) → IsAt now.core p at → IsAt now.core q to → IsChosen now at.log → IsChosen now to.log → ¬ LiesIn after.core p at.log → LiesIn after.core q to.log → StandsFirst now.collection at to

-- ---- giving up
-- no log is chosen any more, no object that lies in one of those that were has EVAC, and each cell says what it said, but for EVAC
pub record TellsEnd (now after : Moment) : Type 0 where
  pub collection : after.collection ≡ []
  pub bare : (p l : ℕ) → IsChosen now l → LiesIn after.core p l → ShowsEvac after.core p false
  pub same : (p : ℕ) → option_map without_evac (read_of (after.core.cell p)) ≡ option_map without_evac (read_of (now.core.cell p))

-- ---- a whole round
-- the step that a turn makes, by the phase; where no round is running, one that is refused
abbrev pub turn_step : Phase → Step
turn_step Idle = Abort
turn_step Marking = Mark 16
turn_step Waiting = Wait
turn_step Evacuating = Evacuate 16

-- turns one after the other, the last one first: each is answered, and leads on, as the command of its step does
abbrev pub AreTurns : Moment → List Reply → Moment → Type 0
AreTurns now [] after = after ≡ now
AreTurns now (r ∷ rs) after = (before : Moment) × AreTurns now rs before × Served before (Evacuator (turn_step before.phase)) r after

-- none of them was done
abbrev pub says_done : Reply → Bool
says_done (Evacuated progress) = progress.done
says_done r = false

abbrev pub NoneDone : List Reply → Type 0
NoneDone [] = Unit {0}
NoneDone (r ∷ rs) = (says_done r ≡ false) × NoneDone rs

-- what they count of something, added up
abbrev pub counted_by : (Progress → ℕ) → Reply → ℕ
counted_by count (Evacuated progress) = count progress
counted_by count r = 0

abbrev pub sum_of : (Progress → ℕ) → List Reply → ℕ
sum_of count [] = 0
sum_of count (r ∷ rs) = sum_of count rs + counted_by count r

pub record AddsUp (rs : List Reply) (progress : Progress) : Type 0 where
  pub moved : progress.moved ≡ sum_of (λ (x : Progress). x.moved) rs
  pub far : progress.far ≡ sum_of (λ (x : Progress). x.far) rs
  pub dropped : progress.dropped ≡ sum_of (λ (x : Progress). x.dropped) rs
  pub freed : progress.freed ≡ sum_of (λ (x : Progress). x.freed) rs

-- the last turn alone was done, and the counts are the sums; or all turns were made, and the round stands in this phase
abbrev pub Ends : ℕ → List Reply → RoundEnd → Moment → Type 0
Ends turns rs (ends.Done progress) after =
    (last : Progress) × (rest : List Reply) × (rs ≡ Evacuated last ∷ rest) × (last.done ≡ true) × NoneDone rest × (length rs ≤ turns) × AddsUp rs progress × (after.phase ≡ Idle)
Ends turns rs ends.Nothing after = ⊥
Ends turns rs (ends.Limit phase) after = NoneDone rs × (length rs ≡ turns) × (after.phase ≡ phase)

-- where it was done, the counts are of what has changed so from its first moment to its last, and each chosen log was given back
pub record CountsRound (now : Moment) (logs : List ℕ) (progress : Progress) (after : Moment) : Type 0 where
  pub moved : IsHowMany (IsMoved now.core after.core) progress.moved
  pub far : IsHowMany (IsSentFar now.core after.core) progress.far
  pub dropped : IsHowMany (IsRetired now.core after.core) progress.dropped
  pub freed : progress.freed ≡ length logs

abbrev pub CountsAtEnd : Moment → List ℕ → RoundEnd → Moment → Type 0
CountsAtEnd now logs (ends.Done progress) after = CountsRound now logs progress after
CountsAtEnd now logs ends.Nothing after = Unit {0}
CountsAtEnd now logs (ends.Limit phase) after = Unit {0}

-- no log was chosen, and nothing has changed; or some were, as `select` would, and turns were made
abbrev pub TellsRound : Moment → Policy → ℕ → ℕ → RoundEnd → Moment → Type 0
TellsRound now policy most turns ends.Nothing after = Takes now (By policy) most [] × (after ≡ now)
TellsRound now policy most turns end after =
    (l : ℕ) × (ls : List ℕ) × (chosen : Moment) × (rs : List Reply) × Served now (Evacuator (Select (By policy) most)) (Selected (l ∷ ls)) chosen × AreTurns chosen rs after × Ends turns rs end after × CountsAtEnd now (l ∷ ls) end after

-- ---- a step that is stopped by the device, or for want of memory
-- at this object, which was to go far and to be written: it lies in a chosen log, before all others that lie in those, and has DIRTY. Its owner hasn't dropped it; and if it is hot there is no room for it, not even in
-- the last free log
pub record IsStoppedAt (after : Moment) (p : ℕ) : Type 0 where
  pub len : ℕ
  pub ds : ℕ
  pub place : Place
  pub marks : Marks
  pub lies : read_of (after.core.cell p) ≡ Some (pointer.Near len ds place marks)
  pub chosen : IsChosen after place.log
  pub first : (q : ℕ) (at : Place) → q ≢ p → IsAt after.core q at → IsChosen after at.log → StandsFirst after.collection place at
  pub written : marks.dirty ≡ true
  pub kept : marks.dropped ≡ false
  pub cold : marks.hot ≡ true → room after.core (size_of len) false ≡ None

-- at such an object, before as many have left as were asked for: what is told of those that did is so, and a log is left
pub record TellsStop (now : Moment) (count : ℕ) (progress : Progress) (after : Moment) : Type 0 where
  pub objects : ℕ
  pub before : objects < count
  pub left : TellsLeaving now objects progress after
  pub unfinished : progress.done ≡ false
  pub at : (p : ℕ) × IsStoppedAt after p

-- some logs were chosen, as `select` would, and fewer turns were made than were asked for, none of which was done. In the next, in which objects leave, fewer did than a turn deals with, and it stopped at such an
-- object. The counts are the sums
pub record TellsRoundStop (now : Moment) (policy : Policy) (most turns : ℕ) (progress : Progress) (after : Moment) : Type 0 where
  pub log : ℕ
  pub logs : List ℕ
  pub began : Moment
  pub chosen : Served now (Evacuator (Select (By policy) most)) (Selected (log ∷ logs)) began
  pub replies : List Reply
  pub stood : Moment
  pub made : AreTurns began replies stood
  pub none : NoneDone replies
  pub few : length replies < turns
  pub leaves : stood.phase ≡ Evacuating
  pub objects : ℕ
  pub before : objects < 16
  pub last : Progress
  pub left : Served stood (Evacuator (Evacuate objects)) (Evacuated last) after
  pub unfinished : last.done ≡ false
  pub at : (p : ℕ) × IsStoppedAt after p
  pub sums : AddsUp (Evacuated last ∷ replies) progress

-- ---- the phase
-- in which a step may be made
abbrev pub IsTimeFor : Step → Phase → Type 0
IsTimeFor (Select choice most) phase = phase ≡ Idle
IsTimeFor (Mark count) phase = phase ≡ Marking
IsTimeFor Wait phase = phase ≡ Waiting
IsTimeFor (Evacuate count) phase = phase ≡ Evacuating
IsTimeFor Abort phase = phase ≢ Idle
IsTimeFor (Round policy most turns) phase = phase ≡ Idle

-- and the next, as the reply says
abbrev pub phase_after : Phase → Step → Reply → Phase
phase_after phase (Select choice most) (Selected (l ∷ ls)) = Marking
phase_after phase (Mark count) (Marked marked (Some epoch)) = Waiting
phase_after phase Wait Clear = Evacuating
phase_after phase (Evacuate count) (Evacuated progress) = if progress.done then Idle else phase
phase_after phase Abort Done = Idle
phase_after phase (Round policy most turns) (Ended (ends.Limit next)) = next
phase_after phase (Round policy most turns) (Halted why progress) = Evacuating
phase_after phase step r = phase

-- ---- all together
-- a step is refused for its cause alone
abbrev pub TellsRefusal : Moment → Step → Refusal → Type 0
TellsRefusal now step WrongPhase = ¬ IsTimeFor step now.phase
TellsRefusal now (Select choice most) EpochsSpent = now.core.epoch + 1 ≡ EPOCH_END
TellsRefusal now (Round policy most turns) EpochsSpent = now.core.epoch + 1 ≡ EPOCH_END
TellsRefusal now (Select (Script named) most) (BadChoice log) = FollowsScript (sealed_rows now) most named (Err (BadChoice log))
TellsRefusal now Wait (StillOpen m epoch) = HoldsUp now.core m epoch
TellsRefusal now step why = ⊥

abbrev pub TellsTruth : Moment → Step → Reply → Moment → Type 0
TellsTruth now (Select choice most) (Selected logs) after = TellsChoice now choice most logs after
TellsTruth now (Mark count) (Marked marked waiting) after = TellsMarks now count marked waiting after
TellsTruth now Wait Clear after = NobodyHoldsUp now.core
TellsTruth now (Evacuate count) (Evacuated progress) after = TellsLeaving now count progress after
TellsTruth now Abort Done after = TellsEnd now after
TellsTruth now (Round policy most turns) (Ended end) after = TellsRound now policy most turns end after
TellsTruth now (Evacuate count) (Halted why progress) after = TellsStop now count progress after
TellsTruth now (Round policy most turns) (Halted why progress) after = TellsRoundStop now policy most turns progress after
TellsTruth now step (Refused why) after = TellsRefusal now step why
TellsTruth now step r after = ⊥

pub record TellsStep (now : Moment) (step : Step) (r : Reply) (after : Moment) : Type 0 where
  pub tells : TellsTruth now step r after
  pub phase : after.phase ≡ phase_after now.phase step r
  pub time : r ≢ Refused WrongPhase → IsTimeFor step now.phase

-- each step of a list of commands tells so
abbrev pub Told : Moment → Command → Reply → Moment → Type 0
Told now (Evacuator step) r after = TellsStep now step r after
Told now c r after = Unit {0}

abbrev pub AllTold : Moment → List Command → List Reply → List Moment → Type 0
AllTold = AllAlong Told

abbrev pub StepsAreTold : Type 0
StepsAreTold = (now : Moment) (step : Step) (r : Reply) (after : Moment) → IsMoment now → Commanded now (Evacuator step) r after → TellsStep now step r after
