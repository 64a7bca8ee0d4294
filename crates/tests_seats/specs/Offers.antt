-- What is known for the book's calls about jobs.
use Rattle.std.specs.Prelude.{◌≡◌, ◌⊎◌, ◌+◌, ◌<◌, ◌≤◌, ℕ, Bool, true, false, Option, Some}
use Rattle.far_word.specs.declared.job.Job.{Job}
use Rattle.far_word.specs.declared.mark.Marks.{Marks}
use Rattle.far_word.specs.declared.pointer.Place.{Place}
use Rattle.far_word.specs.declared.pointer.PtrWord.TheVariants.{Near}
use Rattle.far_word.specs.declared.sizes.TheConstants.{JOBS, LOG_WORDS}
use Rattle.far_word.specs.Pointer.{IsPtr, read_of}
use Rattle.far_events.specs.declared.event.Kind.{Kind}
use Rattle.far_events.specs.declared.event.Kind.TheVariants.{Free, Open}
use Rattle.far_events.specs.events.Naming.{unmarked}
use Rattle.far_events.specs.state.State.{State}

-- there is an owner; the first two logs are in the round, and the first owner was seen clear in it
pub record RoundBy (mutators : ℕ) (round clear : ℕ → Bool) : Type 0 where
  pub owner : 0 < mutators
  pub chosen : (l : ℕ) → l < 2 → round l ≡ true
  pub seen : clear 0 ≡ true

abbrev pub HasRound : State → Type 0
HasRound s = RoundBy s.mutators s.round s.clear

-- the next span of the open log begins at a place, and a log is free, if there is one
pub record RoomBy (logs current : ℕ) (kind : ℕ → Kind) (tail : ℕ → ℕ) (next : Place) (spare : Option ℕ) : Type 0 where
  pub within : next.log < logs
  pub opened : kind next.log ≡ Open
  pub current_is : current ≡ next.log
  pub ends : tail next.log ≡ next.at
  pub low : next.at ≤ LOG_WORDS
  pub free : (l : ℕ) → spare ≡ Some l → (l < logs) × (kind l ≡ Free) × (tail l ≡ 0)

abbrev pub HasRoom : State → Place → Option ℕ → Type 0
HasRoom s = RoomBy s.logs s.current s.kind s.tail

-- so it is, if that place is known
pub record RoomIfKnown (logs current : ℕ) (kind : ℕ → Kind) (tail : ℕ → ℕ) (next : Option Place) (spare : Option ℕ) : Type 0 where
  pub there : (place : Place) → next ≡ Some place → RoomBy logs current kind tail place spare

abbrev pub KnowsRoom : State → Option Place → Option ℕ → Type 0
KnowsRoom s = RoomIfKnown s.logs s.current s.kind s.tail

-- so many jobs, the first ones, were offered in this round
abbrev pub HasBegun : State → ℕ → Type 0
HasBegun s offered = (j : ℕ) → j < offered → s.copying.since j ≡ s.round_epoch

-- and the word of one job is as it was last found
pub record JobsBy (jobs since : ℕ → ℕ) (epoch offered job word : ℕ) : Type 0 where
  pub few : offered ≤ JOBS
  pub begun : (j : ℕ) → j < offered → since j ≡ epoch
  pub low : job < JOBS
  pub found : jobs job ≡ word

abbrev pub KnowsJobs : State → ℕ → ℕ → ℕ → Type 0
KnowsJobs s = JobsBy s.copying.word s.copying.since s.round_epoch

-- the pointer's object lies in one of the first two logs with EVAC
pub record MarkedBy (cell : ℕ → ℕ) (p len ds : ℕ) (place : Place) : Type 0 where
  pub marks : Marks
  pub near : read_of (cell p) ≡ Some (Near len ds place marks)
  pub layout : IsPtr (Near len ds place marks)
  pub marked : marks.evac ≡ true
  pub chosen : place.log < 2

abbrev pub IsMarked : State → ℕ → ℕ → ℕ → Place → Type 0
IsMarked s = MarkedBy s.cell

-- a span of so many words goes to a place: to the end of the open log, or to the start of the free one, and ends within its log
abbrev pub IsRoom : Place → Option ℕ → ℕ → Place → Type 0
IsRoom next spare size to = ((to ≡ next) ⊎ ((spare ≡ Some to.log) × (to.at ≡ 0))) × (to.at + size ≤ LOG_WORDS)

-- a log that is free still, once a span was taken there
abbrev pub IsLeft : Place → Option ℕ → Place → Option ℕ → Type 0
IsLeft next spare to spare' = (l : ℕ) → spare' ≡ Some l → (spare ≡ Some l) × (to.log ≡ next.log)

-- a cell names the source of a job, with EVAC and without DROP; and another word names its target, with DIRTY where the cell has it
pub record IsMoved (job : Job) (cell new : ℕ) : Type 0 where
  pub len : ℕ
  pub ds : ℕ
  pub marks : Marks
  pub was : read_of cell ≡ Some (Near len ds job.from marks)
  pub kept : marks.dropped ≡ false
  pub marked : marks.evac ≡ true
  pub is : read_of new ≡ Some (Near len ds job.to (unmarked marks.dirty))
