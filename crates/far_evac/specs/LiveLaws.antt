-- Which objects a round deals with, and in which order, in the subject's words.
use Rattle.std.specs.Prelude.{◌≡◌, ◌⊎◌, ◌↔◌, ℕ, ◌<◌, true, eqb, Some, List, [], ◌∷◌, ◌++◌, Contains}
use Rattle.std.specs.List.{AllByRecursion, IsDistinct}
use Rattle.far_word.specs.declared.mark.Marks.{Marks}
use Rattle.far_word.specs.declared.pointer.Place.{Place}
use Rattle.far_word.specs.declared.pointer.PtrWord.TheVariants.{Near}
use Rattle.far_word.specs.Pointer.{read_of}
use Rattle.far_events.specs.state.Law.{Law}
use Rattle.far_events.specs.state.State.{State}
use Rattle.far_book.specs.book.Own.{own_part}
use Rattle.far_evac.specs.Live.{live_among}
use Rattle.far_evac.specs.RoundSteps.{among}

-- p's object lies near in one of these logs, dropped or not
pub record IsNearIn (s : State) (logs : List ℕ) (p : ℕ) : Type 0 where
  pub len : ℕ
  pub ds : ℕ
  pub place : Place
  pub marks : Marks
  pub near : read_of (s.cell p) ≡ Some (Near len ds place marks)
  pub log : among logs place.log ≡ true

-- k stands in a list, and l behind it
pub record IsBehind (logs : List ℕ) (k l : ℕ) : Type 0 where
  pub before : List ℕ
  pub after : List ℕ
  pub parts : logs ≡ before ++ k ∷ after
  pub member : among after l ≡ true

-- p's object comes before q's: its log stands sooner in the list, or is the same one, and it lies at a lower word
abbrev pub ComesFirst : State → List ℕ → ℕ → ℕ → Type 0
ComesFirst s logs p q = (len ds n d : ℕ) (from to : Place) (marks others : Marks) → read_of (s.cell p) ≡ Some (Near len ds from marks) → read_of (s.cell q) ≡ Some (Near n d to others) →
    ((from.log ≡ to.log) × (from.at < to.at)) ⊎ IsBehind logs from.log to.log

-- of any two in a list the one that stands sooner comes first
abbrev pub IsInTurn : (ℕ → ℕ → Type 0) → List ℕ → Type 0
IsInTurn First [] = Unit {0}
IsInTurn First (p ∷ ps) = AllByRecursion (First p) ps × IsInTurn First ps

-- a list has each object that lies near in these logs, once, log after log, and within a log by rising words
pub record ListsLive (s : State) (logs ps : List ℕ) : Type 0 where
  pub each : (p : ℕ) → Contains ps p ↔ IsNearIn s logs p
  pub once : IsDistinct eqb ps
  pub order : IsInTurn (ComesFirst s logs) ps

abbrev pub LiveIsInOrder : Type 0
LiveIsInOrder = (s : State) (logs : List ℕ) → Law (own_part s) → IsDistinct eqb logs → ListsLive s logs (live_among s logs)
