-- When an object that has no place may get one in the book's own part of a state: a new one, or one that was far.
use Rattle.std.specs.Prelude.{◌≡◌, ℕ, ◌*◌, ◌<◌, Bool, false, Option, Some}
use Rattle.far_word.specs.declared.mark.Marks.{Marks}
use Rattle.far_word.specs.declared.pointer.Place.{Place}
use Rattle.far_word.specs.declared.pointer.PtrWord.{PtrWord}
use Rattle.far_word.specs.declared.pointer.PtrWord.TheVariants.{Near, Far}
use Rattle.far_word.specs.declared.sizes.TheConstants.{CELLS}
use Rattle.far_word.specs.Header.{head_word}
use Rattle.far_word.specs.Pointer.{IsPtr, read_of}
use Rattle.far_events.specs.events.Legal.{IsNext}
use Rattle.far_events.specs.events.Naming.{no_marks}
use Rattle.far_events.specs.events.NewSpans.{with_span}
use Rattle.far_events.specs.state.Spans.{names_place}
use Rattle.far_events.specs.state.State.{State, put, addr}
use Rattle.far_book.specs.book.Effects.{near_word}

-- a pointer of the heap that names no place, a length and a data structure on the layout, a place where the next span may stand and fits; and
-- no word stands in the state but headers
pub record Placeable (s : State) (p len ds : ℕ) (place : Place) : Type 0 where
  pub pointer : p < CELLS * s.mutators
  pub unplaced : (l at : ℕ) → names_place (read_of (s.cell p)) l at ≡ false
  pub layout : IsPtr (Near len ds place no_marks)
  pub next : IsNext s place
  pub bare : (a : ℕ) → s.starts a ≡ false → s.word a ≡ 0

-- the state with the object's header written and its span taken, its cell without marks but DIRTY, and that as said
abbrev pub with_object : State → Bool → ℕ → ℕ → ℕ → Place → State
with_object s dirty p len ds place = with_span (record s { word = put s.word (addr place) (head_word p len ds) }) p (near_word dirty len ds place) len place

-- a cell says that its object is far, with this length and data structure, and it isn't dropped
abbrev pub IsAbsent : Option PtrWord → ℕ → ℕ → Type 0
IsAbsent o len ds = (marks : Marks) × (o ≡ Some (Far len ds marks)) × (marks.dropped ≡ false)
