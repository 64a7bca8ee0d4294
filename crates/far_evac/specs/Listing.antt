-- What a census tells, in the subject's words: where the object of each pointer is, by rising numbers, and of each log what it is and has, in order.
use Rattle.std.specs.Prelude.{◌≡◌, ◌↔◌, ℕ, ◌<◌, true, false, Some, List, map, Contains}
use Rattle.std.specs.List.{AllByRecursion, range_with_len}
use Rattle.far_word.specs.declared.pointer.PtrWord.TheVariants as pointer
use Rattle.far_word.specs.Pointer.{read_of}
use Rattle.far_events.specs.declared.event.Kind.TheVariants as kinds
use Rattle.far_core.specs.laws.Observed.{dead_bytes, live_bytes, unused_bytes}
use Rattle.far_events.specs.state.Law.{Law}
use Rattle.far_events.specs.state.State.{State}
use Rattle.far_book.specs.book.Own.{own_part}
use Rattle.far_book.specs.declared.home.Home.{Home}
use Rattle.far_book.specs.declared.home.Home.TheVariants.{Near, Far}
use Rattle.far_evac.specs.declared.census.Housed.{Housed}
use Rattle.far_evac.specs.declared.census.LogKind.{LogKind}
use Rattle.far_evac.specs.declared.census.LogKind.TheVariants.{Free, Open, Sealed, Chosen}
use Rattle.far_evac.specs.declared.census.LogState.{LogState}
use Rattle.far_evac.specs.Census.{homes_of, logs_of}
use Rattle.far_evac.specs.LiveLaws.{IsInTurn}
use Rattle.far_evac.specs.Moment.{Moment}
use Rattle.far_evac.specs.RoundSteps.{among}

-- p's cell says that its object is at a place in a log, or that it is far, with these marks, of which DROP is none
abbrev pub IsAt : State → ℕ → Home → Type 0
IsAt s p (Near place marks) = (len ds : ℕ) × (read_of (s.cell p) ≡ Some (pointer.Near len ds place marks)) × (marks.dropped ≡ false)
IsAt s p (Far marks) = (len ds : ℕ) × (read_of (s.cell p) ≡ Some (pointer.Far len ds marks)) × (marks.dropped ≡ false)

-- the pointers, as they are listed
abbrev pub listed_pointers : List Housed → List ℕ
listed_pointers homes = map (λ (housed : Housed). housed.pointer) homes

-- a log is named so: a sealed one by whether the round holds it
abbrev pub IsNamed : Moment → ℕ → LogKind → Type 0
IsNamed m l Free = m.core.kind l ≡ kinds.Free
IsNamed m l Open = m.core.kind l ≡ kinds.Open
IsNamed m l Sealed = (m.core.kind l ≡ kinds.Sealed) × (among m.collection l ≡ false)
IsNamed m l Chosen = (m.core.kind l ≡ kinds.Sealed) × (among m.collection l ≡ true)

-- what is told of a log is so
pub record TellsState (m : Moment) (log : LogState) : Type 0 where
  pub kind : IsNamed m log.row.log log.kind
  pub live : log.row.live ≡ live_bytes m.core log.row.log
  pub dead : log.row.dead ≡ dead_bytes m.core log.row.log
  pub unused : log.row.unused ≡ unused_bytes m.core log.row.log

-- a pointer is listed with a home exactly where its cell says so; of any two that are listed the first is the lower, so that none is listed twice. The logs
-- are listed from 0 on, each once, and what is told of each is so
pub record ListsEach (m : Moment) (homes : List Housed) (logs : List LogState) : Type 0 where
  pub each : (p : ℕ) (home : Home) → Contains homes record { pointer = p; home = home } ↔ IsAt m.core p home
  pub rises : IsInTurn (λ p q. p < q) (listed_pointers homes)
  pub order : map (λ (log : LogState). log.row.log) logs ≡ range_with_len 0 m.core.logs
  pub tells : AllByRecursion (TellsState m) logs

-- so it is with the census by which an audit is defined
abbrev pub CensusListsEach : Type 0
CensusListsEach = (m : Moment) → Law (own_part m.core) → ListsEach m (homes_of m.core) (logs_of m)
