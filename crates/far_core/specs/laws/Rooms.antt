-- That room is where the next span may stand, and that it overlooks none.
use Rattle.std.specs.Prelude.{◌≡◌, ◌≢◌, ℕ, ◌+◌, ◌<◌, ◌≤◌, Bool, true, false, Option, Some, None}
use Rattle.far_word.specs.declared.pointer.Place.{Place}
use Rattle.far_word.specs.declared.sizes.TheConstants.{LOG_WORDS}
use Rattle.far_events.specs.declared.event.Kind.TheVariants.{Free}
use Rattle.far_events.specs.events.Legal.{IsNext}
use Rattle.far_core.specs.state.Room.{room}
use Rattle.far_events.specs.state.State.{State}

-- a log of the heap that is free
abbrev pub IsFree : State → ℕ → Type 0
IsFree s l = (l < s.logs) × (s.kind l ≡ Free)

-- a span of this size doesn't fit after the tail of the open log
abbrev pub IsFull : State → ℕ → Type 0
IsFull s size = ¬ (s.tail s.current + size ≤ LOG_WORDS)

-- a place: the next span may stand there, and fits; a free log is taken only where the open one is full, it is the
-- lowest, and where the reserve is kept another is left
pub record IsRoom (s : State) (size : ℕ) (reserve : Bool) (place : Place) : Type 0 where
  pub next : IsNext s place
  pub fits : place.at + size ≤ LOG_WORDS
  pub full : s.kind place.log ≡ Free → IsFull s size
  pub lowest : s.kind place.log ≡ Free → (l : ℕ) → l < place.log → s.kind l ≢ Free
  pub left : s.kind place.log ≡ Free → reserve ≡ true → (l : ℕ) × (place.log < l) × IsFree s l

-- none: the open log is full, and no log is free, or one alone where the reserve is kept
pub record IsNoRoom (s : State) (size : ℕ) (reserve : Bool) : Type 0 where
  pub full : IsFull s size
  pub one : (k l : ℕ) → k < l → IsFree s k → ¬ IsFree s l
  pub none : reserve ≡ false → (l : ℕ) → ¬ IsFree s l

abbrev pub RoomIs : State → ℕ → Bool → Option Place → Type 0
RoomIs s size reserve None = IsNoRoom s size reserve
RoomIs s size reserve (Some place) = IsRoom s size reserve place

abbrev pub RoomIsRight : State → Type 0
RoomIsRight s = (size : ℕ) (reserve : Bool) → size ≤ LOG_WORDS → RoomIs s size reserve (room s size reserve)
