-- Lists of the book's calls on jobs, and of others' events, on a heap that nobody else steps, and what they answer: for worked examples.
use Rattle.std.specs.Prelude.{◌≡◌, ℕ, true, Option, Some, None, List, [], ◌∷◌, map}
use Rattle.far_log.specs.declared.row.LogRow.{LogRow}
use Rattle.far_word.specs.declared.pointer.Place.{Place}
use Rattle.far_word.specs.declared.sizes.TheConstants.{JOBS}
use Rattle.far_word.specs.Sizes.{size_of}
use Rattle.far_events.specs.declared.event.Event.{Event}
use Rattle.far_events.specs.declared.event.Reply.{Reply}
use Rattle.far_events.specs.events.Step.{step_of}
use Rattle.far_events.specs.state.Opening.{opening}
use Rattle.far_core.specs.state.Room.{room}
use Rattle.far_events.specs.state.State.{State}
use Rattle.far_book.specs.book.Collecting.{all_back, all_collected}
use Rattle.far_book.specs.book.Dealing.{goal, moved_now}
use Rattle.far_book.specs.book.Effects.{placed}
use Rattle.far_book.specs.book.Offering.{offered}
use Rattle.far_book.specs.book.Rows.{row_of}

-- anybody's event; a new object of a pointer; the move of an object; the offer of its copy, by a job; collecting, and taking back; and a look at a cell, at the word of a job,
-- at a log
pub data Call : Type 0 where
  Step : (event : Event) → Call
  News : (pointer len : ℕ) → Call
  MovesNow : (pointer : ℕ) → Call
  Offers : (job pointer : ℕ) → Call
  Collects : Call
  TakesBack : Call
  Cell : (pointer : ℕ) → Call
  Job : (job : ℕ) → Call
  Log : (log : ℕ) → Call

pub data Answer : Type 0 where
  Replies : (reply : Reply) → Answer
  At : (place : Place) → Answer
  NoRoom : Answer
  Named : (count : ℕ) → Answer
  Made : Answer
  Holds : (word : ℕ) → Answer
  LogHas : (row : LogRow) → Answer

-- a heap of four logs and one mutator at the start
abbrev pub start : State
start = opening record { logs = 4; mutators = 1; epoch = 0 } true

abbrev placed_at : State → ℕ → ℕ → Option Place → State × Answer
placed_at s p len None = (s, NoRoom)
placed_at s p len (Some place) = (placed s p len 1 place, At place)

abbrev moved_at : State → ℕ → Option Place → State × Answer
moved_at s p None = (s, NoRoom)
moved_at s p (Some place) = (moved_now s p place, At place)

abbrev offered_at : State → ℕ → ℕ → Option Place → State × Answer
offered_at s j p None = (s, NoRoom)
offered_at s j p (Some place) = (offered s j p place, At place)

abbrev pub turn_of : State → Call → State × Answer
turn_of s (Step event) = let step = step_of s event in (step.0, Replies step.1)
turn_of s (News p len) = placed_at s p len (room s (size_of len) true)
turn_of s (MovesNow p) = moved_at s p (goal s p)
turn_of s (Offers j p) = offered_at s j p (goal s p)
turn_of s Collects = let all = all_collected s JOBS in (all.0, Named all.1)
turn_of s TakesBack = (all_back s JOBS, Made)
turn_of s (Cell p) = (s, Holds (s.cell p))
turn_of s (Job j) = (s, Holds (s.copying.word j))
turn_of s (Log l) = (s, LogHas (row_of s l))

abbrev pub answers : State → List Call → List Answer
answers s [] = []
answers s (c ∷ cs) = let turn = turn_of s c in turn.1 ∷ answers turn.0 cs

-- the state that they lead to
abbrev pub led_by : State → List Call → State
led_by s [] = s
led_by s (c ∷ cs) = led_by (turn_of s c).0 cs

-- a call, and what it is to answer
infix 68 ◌⟶◌
pub data Line : Type 0 where
  ◌⟶◌ : (call : Call) → (answer : Answer) → Line

abbrev pub call_of : Line → Call
call_of (call ⟶ answer) = call

abbrev pub answer_of : Line → Answer
answer_of (call ⟶ answer) = answer

-- from this state on each call answers what stands behind it
abbrev pub Plays : State → List Line → Type 0
Plays s lines = answers s (map call_of lines) ≡ map answer_of lines

-- the state after such calls
abbrev pub after : List Line → State
after lines = led_by start (map call_of lines)
