-- Lists of calls on a heap that nobody else steps, and what they answer: for worked examples of the definitions.
use Rattle.std.specs.Prelude.{◌≡◌, ℕ, Bool, true, false, cond, not, Option, Some, None, List, [], ◌∷◌, length, map, take}
use Rattle.far_word.specs.declared.pointer.Place.{Place}
use Rattle.far_word.specs.declared.refused.Refused.{Refused as Refusal}
use Rattle.far_word.specs.declared.refused.Refused.TheVariants.{NoRoom, Phase as WrongPhase, EpochsSpent}
use Rattle.far_word.specs.Pointer.{read_of}
use Rattle.far_word.specs.Sizes.{size_of}
use Rattle.far_events.specs.declared.event.Event.{Event}
use Rattle.far_events.specs.declared.event.Event.TheVariants.{Adopt}
use Rattle.far_events.specs.declared.event.Reply.{Reply}
use Rattle.far_events.specs.events.Step.{step_of}
use Rattle.far_events.specs.state.Opening.{opening}
use Rattle.far_core.specs.state.Room.{room}
use Rattle.far_events.specs.state.State.{State}
use Rattle.far_policy.specs.LeastLive.{least_live}
use Rattle.far_policy.specs.Logs.{logs_of}
use Rattle.far_book.specs.book.Dealing.{goal, moved_now, order_moved}
use Rattle.far_book.specs.book.Effects.{placed, fetched, retired}
use Rattle.far_book.specs.book.Fetching.{room_for}
use Rattle.far_book.specs.book.Home.{home_of}
use Rattle.far_book.specs.book.Rows.{row_of}
use Rattle.far_book.specs.declared.home.Home.{Home}
use Rattle.far_evac.specs.declared.answers.Polled.{Polled}
use Rattle.far_evac.specs.declared.answers.Progress.{Progress}
use Rattle.far_evac.specs.declared.answers.RoundEnd.{RoundEnd}
use Rattle.far_evac.specs.declared.answers.RoundEnd.TheVariants.{Nothing}
use Rattle.far_evac.specs.declared.census.Housed.{Housed}
use Rattle.far_evac.specs.declared.census.LogState.{LogState}
use Rattle.far_evac.specs.declared.phase.Phase.{Phase}
use Rattle.far_evac.specs.declared.phase.Phase.TheVariants.{Idle, Marking, Waiting, Evacuating}
use Rattle.far_evac.specs.Census.{homes_of, kind_in}
use Rattle.far_evac.specs.Choosing.{after_selecting, after_aborting, is_spent}
use Rattle.far_evac.specs.Marking.{newly_marked, after_marking, waiting_for}
use Rattle.far_evac.specs.Moment.{Moment, progress_of, with_placed}
use Rattle.far_evac.specs.MomentLaw.{is_idle}
use Rattle.far_evac.specs.Turns.{round_end, turns_made}
use Rattle.far_evac.specs.Waiting.{after_polling, polled}
use Rattle.far_evac.specs.Walk.{walked, ended, is_done}

-- an owner's event; a new object, for an owner; the book's calls on an object; and the evacuator's calls. `Selects` and `Rounds` choose the oldest logs,
-- `SelectsEmptiest` those with the fewest live bytes
pub data Call : Type 0 where
  Own : (event : Event) → Call
  News : (owner pointer len : ℕ) → Call
  MovesNow : (pointer : ℕ) → Call
  Fetches : (pointer : ℕ) → Call
  Retires : (pointer : ℕ) → Call
  Locates : (pointer : ℕ) → Call
  Selects : (most : ℕ) → Call
  SelectsEmptiest : (most : ℕ) → Call
  Marks : (most : ℕ) → Call
  Waits : Call
  Evacuates : (most : ℕ) → Call
  Aborts : Call
  Rounds : (most turns : ℕ) → Call
  Log : (log : ℕ) → Call
  Audits : Call

pub data Answer : Type 0 where
  Replies : (reply : Reply) → Answer
  Made : Answer
  At : (place : Place) → Answer
  Lies : (home : Option Home) → Answer
  Selected : (logs : List ℕ) → Answer
  Marked : (count : ℕ) → (waiting : Option ℕ) → Answer
  Polls : (polled : Polled) → Answer
  Evacuated : (progress : Progress) → Answer
  Ends : (end : RoundEnd) → Answer
  LogIs : (log : LogState) → Answer
  Homes : (homes : List Housed) → Answer
  Refused : (why : Refusal) → Answer

-- a heap at the start
abbrev pub start : ℕ → ℕ → ℕ → Moment
start logs mutators epoch = record { core = opening record { logs = logs; mutators = mutators; epoch = epoch } true; order = []; phase = Idle; collection = []; copying = false }

abbrev with_core : Moment → State → Moment
with_core m s = record m { core = s }

abbrev placed_at : Moment → ℕ → ℕ → ℕ → Option Place → Moment × Answer
placed_at m k p len None = (m, Refused NoRoom)
placed_at m k p len (Some place) = (with_placed m place (step_of (placed m.core p len 1 place) (Adopt k p)).0, At place)

abbrev moved_at : Moment → ℕ → Option Place → Moment × Answer
moved_at m p None = (m, Refused NoRoom)
moved_at m p (Some place) = (record m { core = moved_now m.core p place; order = order_moved m.core p m.order place }, At place)

abbrev fetched_at : Moment → ℕ → Option Place → Moment × Answer
fetched_at m p None = (m, Refused NoRoom)
fetched_at m p (Some place) = (with_placed m place (fetched m.core p place (m.core.stored p)), At place)

-- in this phase alone
abbrev pub only_in : Bool → Moment → Moment × Answer → Moment × Answer
only_in true m turn = turn
only_in false m turn = (m, Refused WrongPhase)

abbrev pub is_marking : Phase → Bool
is_marking Idle = false
is_marking Marking = true
is_marking Waiting = false
is_marking Evacuating = false

abbrev pub is_waiting : Phase → Bool
is_waiting Idle = false
is_waiting Marking = false
is_waiting Waiting = true
is_waiting Evacuating = false

abbrev pub is_evacuating : Phase → Bool
is_evacuating Idle = false
is_evacuating Marking = false
is_evacuating Waiting = false
is_evacuating Evacuating = true

-- a choice of logs may be made
abbrev pub choosing : Moment → Moment × Answer → Moment × Answer
choosing m turn = only_in (is_idle m.phase) m (cond (is_spent m.core) (m, Refused EpochsSpent) turn)

abbrev pub round_of : Moment → ℕ → List ℕ → Moment × Answer
round_of m turns [] = (m, Ends Nothing)
round_of m turns (l ∷ ls) = let r = turns_made (after_selecting m (l ∷ ls)) turns in (r.moment, Ends (round_end r))

abbrev pub turn_of : Moment → Call → Moment × Answer
turn_of m (Own event) = let step = step_of m.core event in (with_core m step.0, Replies step.1)
turn_of m (News k p len) = placed_at m k p len (room m.core (size_of len) true)
turn_of m (MovesNow p) = moved_at m p (goal m.core p)
turn_of m (Fetches p) = fetched_at m p (room_for m.core p)
turn_of m (Retires p) = (with_core m (retired m.core p), Made)
turn_of m (Locates p) = (m, Lies (home_of (read_of (m.core.cell p))))
turn_of m (Selects most) = let logs = take most m.order in choosing m (after_selecting m logs, Selected logs)
turn_of m (SelectsEmptiest most) = let logs = logs_of (least_live (map (row_of m.core) m.order) most) in choosing m (after_selecting m logs, Selected logs)
turn_of m (Marks n) = only_in (is_marking m.phase) m (after_marking m n, Marked (length (newly_marked m n)) (waiting_for m n))
turn_of m Waits = only_in (is_waiting m.phase) m (after_polling m, Polls (polled m.core))
turn_of m (Evacuates n) = only_in (is_evacuating m.phase) m (let w = walked m n in (ended w, Evacuated (progress_of w.tally (is_done w))))
turn_of m Aborts = only_in (not (is_idle m.phase)) m (after_aborting m, Made)
turn_of m (Rounds most turns) = choosing m (round_of m turns (take most m.order))
turn_of m (Log l) = (m, LogIs record { kind = kind_in m l; row = row_of m.core l })
turn_of m Audits = (m, Homes (homes_of m.core))

abbrev pub answers : Moment → List Call → List Answer
answers m [] = []
answers m (c ∷ cs) = let turn = turn_of m c in turn.1 ∷ answers turn.0 cs

-- a call, and what it is to answer
infix 68 ◌⟶◌
pub data Line : Type 0 where
  ◌⟶◌ : (call : Call) → (answer : Answer) → Line

abbrev pub call_of : Line → Call
call_of (call ⟶ answer) = call

abbrev pub answer_of : Line → Answer
answer_of (call ⟶ answer) = answer

-- from this moment on each call answers what stands behind it
abbrev pub Plays : Moment → List Line → Type 0
Plays m lines = answers m (map call_of lines) ≡ map answer_of lines
