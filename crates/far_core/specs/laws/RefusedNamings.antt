-- Causes for which a naming is refused, a row each, said of what is so in the state and in its two words, and not by its guard.
use Rattle.std.specs.Prelude.{◌≡◌, ◌≢◌, ℕ, ◌+◌, ◌*◌, ◌/◌, ◌^◌, ◌<◌, ◌≤◌, true, false, Some, None}
use Rattle.far_word.specs.declared.mark.Marks.{Marks}
use Rattle.far_word.specs.declared.pointer.Place.{Place}
use Rattle.far_word.specs.declared.pointer.PtrWord.TheVariants.{Near, Far}
use Rattle.far_word.specs.declared.sizes.TheConstants.{CELLS}
use Rattle.far_word.specs.Header.{head_word}
use Rattle.far_word.specs.Mark.{field}
use Rattle.far_word.specs.Pointer.{read_of}
use Rattle.far_events.specs.declared.event.Event.TheVariants.{Name}
use Rattle.far_events.specs.declared.event.Kind.TheVariants.{Free, Open, Sealed}
use Rattle.far_events.specs.events.Copied.{WasCopied}
use Rattle.far_core.specs.laws.Refusals.{IsRefused}
use Rattle.far_events.specs.state.State.{State, addr}

-- by its two words: past the last pointer; a word off the layout; a new word with a mark but DIRTY, with another length or data structure; 0 for what
-- has no DROP (bit 59), and any other word for what has it; far where nothing is, where it is far already, or without EVAC; near without DIRTY where
-- nothing is, with DIRTY where it was far, and where it was near with another DIRTY than it had
pub record NewWordIsRefused (s : State) (p old new : ℕ) : Type 0 where
  pub past : CELLS * s.mutators ≤ p → IsRefused s (Name p old new)
  pub old_off_layout : read_of old ≡ None → IsRefused s (Name p old new)
  pub new_off_layout : read_of new ≡ None → IsRefused s (Name p old new)
  pub marked : field new 59 4 ≢ 0 → IsRefused s (Name p old new)
  pub other_length : old ≢ 0 → new ≢ 0 → field new 0 16 ≢ field old 0 16 → IsRefused s (Name p old new)
  pub other_structure : old ≢ 0 → new ≢ 0 → field new 16 8 ≢ field old 16 8 → IsRefused s (Name p old new)
  pub freed_alive : new ≡ 0 → field old 59 1 ≡ 0 → IsRefused s (Name p old new)
  pub kept_dropped : new ≢ 0 → field old 59 1 ≡ 1 → IsRefused s (Name p old new)
  pub far_from_nothing : (len ds : ℕ) (k : Marks) → old ≡ 0 → read_of new ≡ Some (Far len ds k) → IsRefused s (Name p old new)
  pub far_twice : (len ds n d : ℕ) (m k : Marks) → read_of old ≡ Some (Far n d m) → read_of new ≡ Some (Far len ds k) → IsRefused s (Name p old new)
  pub far_unwanted : (len ds n d : ℕ) (place : Place) (m k : Marks) → read_of old ≡ Some (Near n d place m) → m.evac ≡ false → read_of new ≡ Some (Far len ds k) →
      IsRefused s (Name p old new)
  pub new_clean : (len ds : ℕ) (place : Place) (k : Marks) → old ≡ 0 → read_of new ≡ Some (Near len ds place k) → k.dirty ≡ false → IsRefused s (Name p old new)
  pub fetched_dirty : (len ds n d : ℕ) (place : Place) (m k : Marks) → read_of old ≡ Some (Far n d m) → read_of new ≡ Some (Near len ds place k) → k.dirty ≡ true →
      IsRefused s (Name p old new)
  pub other_dirty : (len ds n d : ℕ) (from to : Place) (m k : Marks) → read_of old ≡ Some (Near n d from m) → read_of new ≡ Some (Near len ds to k) → k.dirty ≢ m.dirty →
      IsRefused s (Name p old new)

-- where the cell is the old word, without DROP: its owner views the object; or it hasn't asked for it to be moved, and may come to view it, since
-- it has no EVAC, or lies outside the round, or its owner wasn't seen clear
pub record ReachedIsRefused (s : State) (p old new : ℕ) : Type 0 where
  pub viewed : (place : Place) → s.cell p ≡ old → s.held p ≡ Some place → IsRefused s (Name p old new)
  pub unwanted : (len ds : ℕ) (place : Place) (m : Marks) → s.cell p ≡ old → read_of old ≡ Some (Near len ds place m) → m.dropped ≡ false → m.moved ≡ false →
      m.evac ≡ false → IsRefused s (Name p old new)
  pub outside : (len ds : ℕ) (place : Place) (m : Marks) → s.cell p ≡ old → read_of old ≡ Some (Near len ds place m) → m.dropped ≡ false → m.moved ≡ false →
      s.round place.log ≡ false → IsRefused s (Name p old new)
  pub unseen : (len ds : ℕ) (place : Place) (m : Marks) → s.cell p ≡ old → read_of old ≡ Some (Near len ds place m) → m.dropped ≡ false → m.moved ≡ false →
      s.clear (p / CELLS) ≡ false → IsRefused s (Name p old new)

-- at the place where it lies already, if its owner didn't ask for it or the book wants its log
pub record StayIsRefused (s : State) (p old new : ℕ) (m : Marks) : Type 0 where
  pub unasked : m.moved ≡ false → IsRefused s (Name p old new)
  pub wanted : m.evac ≡ true → IsRefused s (Name p old new)

-- at a place that the old word doesn't say: a log past the last, a sealed one, not at the open log's tail, not at a free log's start; no header
-- for the pointer there; for a new object a word that isn't 0; for a near or far one a word that isn't its own; a byte past the object's end that isn't 0
pub record PlaceIsRefused (s : State) (p old new len ds : ℕ) (to : Place) : Type 0 where
  pub past : s.logs ≤ to.log → IsRefused s (Name p old new)
  pub shut : s.kind to.log ≡ Sealed → IsRefused s (Name p old new)
  pub off_tail : s.kind to.log ≡ Open → to.at ≢ s.tail to.log → IsRefused s (Name p old new)
  pub off_start : s.kind to.log ≡ Free → to.at ≢ 0 → IsRefused s (Name p old new)
  pub headless : s.word (addr to) ≢ head_word p len ds → IsRefused s (Name p old new)
  pub not_zero : (i : ℕ) → old ≡ 0 → 8 * i < len → s.word (addr to + 1 + i) ≢ 0 → IsRefused s (Name p old new)
  pub uncopied : (i n d : ℕ) (from : Place) (m : Marks) → read_of old ≡ Some (Near n d from m) → 8 * i < len → s.word (addr to + 1 + i) ≢ s.word (addr from + 1 + i) →
      IsRefused s (Name p old new)
  pub unfetched : (i n d : ℕ) (m : Marks) → read_of old ≡ Some (Far n d m) → s.honest ≡ true → 8 * i < len → s.word (addr to + 1 + i) ≢ s.stored p i →
      IsRefused s (Name p old new)
  pub unpadded : (i n : ℕ) → n < 8 → 8 * i < len → len ≤ 8 * i + n → s.word (addr to + 1 + i) / 2 ^ (8 * n) ≢ 0 → IsRefused s (Name p old new)

-- the old word doesn't say this place
abbrev pub IsElsewhere : ℕ → Place → Type 0
IsElsewhere old to = (n d : ℕ) (m : Marks) → read_of old ≢ Some (Near n d to m)

-- of each pointer and two words of 64 bits; of a place, where no job that is finished and not void has copied the pointer's object there
pub record NamingsAreRefused (s : State) : Type 0 where
  pub words : (p old new : ℕ) → old < 2 ^ 64 → new < 2 ^ 64 → NewWordIsRefused s p old new
  pub reached : (p old new : ℕ) → ReachedIsRefused s p old new
  pub stays : (p old new len ds n d : ℕ) (place : Place) (m k : Marks) → s.cell p ≡ old → read_of old ≡ Some (Near n d place m) → read_of new ≡ Some (Near len ds place k) →
      StayIsRefused s p old new m
  pub places : (p old new len ds : ℕ) (to : Place) (k : Marks) → read_of new ≡ Some (Near len ds to k) → IsElsewhere old to →
      ((from : Place) → ¬ WasCopied s p from to) → PlaceIsRefused s p old new len ds to
