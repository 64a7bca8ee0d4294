-- What a call of the book that deals with an object may ask of it, and what it may answer.
use Rattle.std.specs.Prelude.{◌≡◌, ◌/◌, ◌%◌, ◌^◌, ◌<◌, ℕ, Bool, true, false, cond, Option, Some, None, List, Result, Ok, Err}
use Rattle.far_word.specs.declared.pointer.Place.{Place}
use Rattle.far_word.specs.declared.pointer.PtrWord.{PtrWord}
use Rattle.far_word.specs.declared.pointer.PtrWord.TheVariants.{Free, Near, Far}
use Rattle.far_word.specs.declared.refused.Refused.{Refused}
use Rattle.far_word.specs.declared.refused.Refused.TheVariants.{Device}
use Rattle.far_word.specs.declared.sizes.TheConstants.{LOG_WORDS}
use Rattle.far_word.specs.Pointer.{read_of}
use Rattle.far_word.specs.Sizes.{size_of}
use Rattle.far_events.specs.events.Naming.{is_dropped}
use Rattle.far_core.specs.state.Room.{room}
use Rattle.far_events.specs.state.State.{State}
use Rattle.far_hand.specs.Finds.{Finds}
use Rattle.far_hand.specs.Known.{IsKnown, KeepsKnown}
use Rattle.far_book.specs.book.Effects.{moved, stayed, order_after, retired, with_free_cell}
use Rattle.far_book.specs.book.Renaming.{seen}

-- the book wants the log that an object lies in
abbrev pub has_evac : Option PtrWord → Bool
has_evac None = false
has_evac (Some Free) = false
has_evac (Some (Near len ds place marks)) = marks.evac
has_evac (Some (Far len ds marks)) = false

-- where a near object goes that is to move: it stays where it lies, unless it has EVAC
abbrev pub goal_of : State → Option PtrWord → Option Place
goal_of s None = None
goal_of s (Some Free) = None
goal_of s (Some (Near len ds place marks)) = cond marks.evac (room s (size_of len) false) (Some place)
goal_of s (Some (Far len ds marks)) = None

abbrev pub goal : State → ℕ → Option Place
goal s p = goal_of s (read_of (s.cell p))

-- it has moved there, or stayed
abbrev pub moved_now : State → ℕ → Place → State
moved_now s p place = cond (has_evac (read_of (s.cell p))) (moved s p place) (stayed s p)

abbrev pub order_moved : State → ℕ → List ℕ → Place → List ℕ
order_moved s p order place = cond (has_evac (read_of (s.cell p))) (order_after s order place) order

-- a state is left, as far as it is known: words may have been learned and forgotten
abbrev pub Leaves : State → State → Type 0
Leaves s t = (t ≡ record s { word = t.word }) × KeepsKnown s t

-- a state is left but for what lies past the tails of its logs, as far as it is known: there words may have been written
pub record LeavesSpans (s t : State) : Type 0 where
  pub is : t ≡ record s { word = t.word }
  pub known : (a : ℕ) → a % LOG_WORDS < s.tail (a / LOG_WORDS) → IsKnown (s.word a) → IsKnown (t.word a) → t.word a ≡ s.word a
  pub headers : (a : ℕ) → s.starts a ≡ true → t.word a ≡ s.word a

-- no word of a span is known that wasn't
abbrev pub LearnsNone : State → State → Type 0
LearnsNone s t = (a : ℕ) → a % LOG_WORDS < s.tail (a / LOG_WORDS) → IsKnown (t.word a) → IsKnown (s.word a)

-- from s to t p's object has moved there, or stayed, by a word without DROP that was found in its cell
pub record MovedBy (s t : State) (p : ℕ) (place : Place) : Type 0 where
  pub word : ℕ
  pub fits : word < 2 ^ 64
  pub found : Finds (s.cell p) word
  pub alive : is_dropped (read_of word) ≡ false
  pub leaves : Leaves (moved_now (seen s p word) p place) t

-- from s to t a word was found in p's cell that has DROP
pub record FindsDrop (s t : State) (p : ℕ) : Type 0 where
  pub fits : t.cell p < 2 ^ 64
  pub found : Finds (s.cell p) (t.cell p)
  pub dropped : is_dropped (read_of (t.cell p)) ≡ true
  pub leaves : LeavesSpans (seen s p (t.cell p)) t

-- from s to t a word with DROP was found in p's cell, and the object was retired: its cell is free
pub record IsRetired (still : Type 0) (s t : State) (p : ℕ) : Type 0 where
  pub word : ℕ
  pub found : Finds (s.cell p) word
  pub dropped : is_dropped (read_of word) ≡ true
  pub leaves : LeavesSpans (with_free_cell s p) t
  pub asked : still → is_dropped (read_of (s.cell p)) ≡ true
  pub exact : still → t ≡ retired s p

-- from s to t nothing has changed but what is known: a word without DROP was found in p's cell, and words were read
pub record IsSeen (s t : State) (p : ℕ) : Type 0 where
  pub word : ℕ
  pub found : Finds (s.cell p) word
  pub alive : is_dropped (read_of word) ≡ false
  pub leads : t ≡ record (seen s p word) { word = t.word }
  pub keeps : KeepsKnown s t

-- a call was refused because the device failed
abbrev pub is_failure : {A : Type 0} → Result A Refused → Bool
is_failure (Ok x) = false
is_failure (Err Device) = true
is_failure (Err why) = false
