-- What the book's effects leave of the sealed logs: nothing new comes to lie there.
use Rattle.std.specs.Prelude.{◌≡◌, ℕ, ◌+◌, ◌*◌, ◌<◌, ◌≤◌, true, false, Some}
use Rattle.far_word.specs.declared.mark.Marks.{Marks}
use Rattle.far_word.specs.declared.pointer.Place.{Place}
use Rattle.far_word.specs.declared.pointer.PtrWord.TheVariants.{Near, Far}
use Rattle.far_word.specs.declared.sizes.TheConstants.{CELLS, LONGEST, LOG_WORDS}
use Rattle.far_word.specs.Pointer.{read_of}
use Rattle.far_word.specs.Sizes.{size_of}
use Rattle.far_events.specs.declared.event.Kind.TheVariants.{Sealed}
use Rattle.far_events.specs.state.Law.{Law}
use Rattle.far_core.specs.state.Room.{room}
use Rattle.far_events.specs.state.State.{State}
use Rattle.far_book.specs.book.Effects.{evicted, fetched, moved, placed, stayed, with_free_cell}
use Rattle.far_book.specs.book.Own.{own_part}

-- from s to t each sealed log stays sealed, with its spans, and in or out of the round; what lies there lay there, at its place, and has EVAC exactly
-- where it had it. Who was seen clear stays so, and the epoch doesn't rise
pub record KeepsSealed (s t : State) : Type 0 where
  pub kind : (l : ℕ) → s.kind l ≡ Sealed → t.kind l ≡ Sealed
  pub tail : (l : ℕ) → s.kind l ≡ Sealed → t.tail l ≡ s.tail l
  pub starts : (l at : ℕ) → s.kind l ≡ Sealed → at < s.tail l → t.starts (l * LOG_WORDS + at) ≡ s.starts (l * LOG_WORDS + at)
  pub near : (p len ds : ℕ) (place : Place) (marks : Marks) → read_of (t.cell p) ≡ Some (Near len ds place marks) → s.kind place.log ≡ Sealed →
      (old : Marks) × (read_of (s.cell p) ≡ Some (Near len ds place old)) × (marks.evac ≡ old.evac)
  pub round : t.round ≡ s.round
  pub clear : t.clear ≡ s.clear
  pub epoch : t.epoch ≡ s.epoch
  pub mutators : t.mutators ≡ s.mutators

-- a new object, one that is moved and one that is fetched come to lie in an open or a free log, and the others only leave
pub record SealedLogsStay (s : State) (p len ds : ℕ) : Type 0 where
  pub places : (place : Place) → s.cell p ≡ 0 → p < CELLS * s.mutators → 0 < len → len ≤ LONGEST → ds < 256 → room s (size_of len) true ≡ Some place → KeepsSealed s (placed s p len ds place)
  pub moves : (from to : Place) (marks : Marks) → read_of (s.cell p) ≡ Some (Near len ds from marks) → marks.evac ≡ true → marks.dropped ≡ false → room s (size_of len) false ≡ Some to → KeepsSealed s (moved s p to)
  pub stays : (place : Place) (marks : Marks) → read_of (s.cell p) ≡ Some (Near len ds place marks) → marks.evac ≡ false → marks.moved ≡ true → marks.dropped ≡ false → KeepsSealed s (stayed s p)
  pub goes : (place : Place) (marks : Marks) → read_of (s.cell p) ≡ Some (Near len ds place marks) → marks.evac ≡ true → marks.dropped ≡ false → KeepsSealed s (evicted s p)
  pub comes : (place : Place) (marks : Marks) (row : ℕ → ℕ) → read_of (s.cell p) ≡ Some (Far len ds marks) → marks.dropped ≡ false → room s (size_of len) true ≡ Some place → KeepsSealed s (fetched s p place row)
  pub ends : KeepsSealed s (with_free_cell s p)

abbrev pub SealedLogsKept : Type 0
SealedLogsKept = (s : State) (p len ds : ℕ) → Law (own_part s) → SealedLogsStay s p len ds
