-- What lets a walk go on as its definitions say.
use Rattle.std.specs.Prelude.{◌≡◌, ℕ, ◌<◌, ◌≤◌, true, eqb, Some, List}
use Rattle.std.specs.List.{AllByRecursion, IsDistinct}
use Rattle.far_word.specs.declared.mark.Marks.{Marks}
use Rattle.far_word.specs.declared.pointer.Place.{Place}
use Rattle.far_word.specs.declared.pointer.PtrWord.TheVariants.{Near}
use Rattle.far_word.specs.declared.sizes.TheConstants.{LOG_WORDS, MOST_LOGS}
use Rattle.far_word.specs.Pointer.{IsPtr, read_of}
use Rattle.far_events.specs.declared.event.Kind.TheVariants.{Open, Sealed}
use Rattle.far_events.specs.events.Naming.{no_marks}
use Rattle.far_events.specs.state.State.{State}

-- each object that lies in a log has EVAC
abbrev pub AllMarked : State → ℕ → Type 0
AllMarked s l = (p len ds : ℕ) (place : Place) (marks : Marks) → read_of (s.cell p) ≡ Some (Near len ds place marks) → place.log ≡ l → marks.evac ≡ true

-- a log of the round
abbrev pub IsOfRound : State → ℕ → Type 0
IsOfRound s l = (s.kind l ≡ Sealed) × AllMarked s l × (s.round l ≡ true)

-- what a near cell says lies on the layout, whatever its marks
abbrev pub OnLayout : ℕ → Type 0
OnLayout w = (len ds : ℕ) (place : Place) (marks : Marks) → read_of w ≡ Some (Near len ds place marks) → IsPtr (Near len ds place no_marks)

-- the part of what is true between two calls, once the epoch has risen, that the walk over these logs rests on
pub record Ready (s : State) (collection : List ℕ) : Type 0 where
  pub layout : (p : ℕ) → OnLayout (s.cell p)
  pub short : (l : ℕ) → s.tail l ≤ LOG_WORDS
  pub opens : s.kind s.current ≡ Open
  pub current : s.current < s.logs
  pub few : s.logs ≤ MOST_LOGS
  pub logs : AllByRecursion (IsOfRound s) collection
  pub once : IsDistinct eqb collection
