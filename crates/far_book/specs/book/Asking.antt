-- What a call of the book asked of its device. A write, a read and a key let go of are the device's own relations of its states: that one of them lies
-- between the state before a call and the one after says that the device was asked this, once, and nothing else.
use Rattle.std.specs.Prelude.{◌≡◌, ◌≢◌, ◌⊎◌, ◌+◌, ◌<◌, ℕ, Bool, true, false, Option, Some, None, List, length, Result, Ok, Err}
use Rattle.far_word.specs.declared.mark.Marks.{Marks}
use Rattle.far_word.specs.declared.pointer.Place.{Place}
use Rattle.far_word.specs.declared.pointer.PtrWord.TheVariants.{Near}
use Rattle.far_word.specs.declared.refused.Refused.{Refused}
use Rattle.far_word.specs.declared.refused.Refused.TheVariants.{Memory, NoRoom, Device, Damaged}
use Rattle.far_word.specs.Bytes.{bytes_of, packed_word}
use Rattle.far_word.specs.Pointer.{read_of}
use Rattle.far_word.specs.Sizes.{words_for}
use Rattle.far_events.specs.events.Naming.{is_dropped}
use Rattle.far_events.specs.state.Law.{IsStored, is_dirty}
use Rattle.far_events.specs.state.State.{State, addr}
use Rattle.far_device.specs.declared.fault.DeviceFault.{DeviceFault}
use Rattle.far_device.specs.declared.fault.DeviceFault.TheVariants as fault
use Rattle.far_hand.specs.Known.{Forgets, IsKnown}
use Rattle.far_book.specs.book.Effects.{fetched}
use Rattle.far_book.specs.book.Fetching.{far_len}

-- the device's fault that a refusal tells of
abbrev pub fault_of : Refused → DeviceFault
fault_of Device = fault.Device
fault_of why = fault.Memory

-- what the device answered where a call that asks nothing else answered so
abbrev pub answer_of : Result (Unit {0}) Refused → Result (Unit {0}) DeviceFault
answer_of (Ok done) = Ok done
answer_of (Err why) = Err (fault_of why)

-- ---- an eviction
-- p's object lies near, and these are its bytes, as far as its words are known
pub record HasBytes (s : State) (p : ℕ) (bytes : List ℕ) : Type 0 where
  pub len : ℕ
  pub ds : ℕ
  pub place : Place
  pub marks : Marks
  pub near : read_of (s.cell p) ≡ Some (Near len ds place marks)
  pub row : ℕ → ℕ
  pub stored : IsStored row len
  pub own : (i : ℕ) → i < words_for len → IsKnown (s.word (addr place + 1 + i)) → row i ≡ s.word (addr place + 1 + i)
  pub are : bytes ≡ bytes_of row len

module _ (D : Type 0) (writes : D → ℕ → List ℕ → Result (Unit {0}) DeviceFault → D → Type 0) (lets_go : D → ℕ → D → Type 0) (s : State) (p : ℕ) where
  -- one write of the object's bytes under its key, with this answer
  abbrev pub WritesIt : D → Result (Unit {0}) DeviceFault → D → Type 0
  WritesIt old answer new = (bytes : List ℕ) × HasBytes s p bytes × writes old p bytes answer new

  -- one write, and then its key let go of, since its owner was found to have dropped it meanwhile
  abbrev pub WritesInVain : D → D → Type 0
  WritesInVain old new = (between : D) × WritesIt old (Ok tt) between × lets_go between p new × (is_dropped (read_of (s.cell p)) ≡ false)

  -- where it went far, one write that was done, or nothing, if it had no DIRTY; where it was retired, no read, and at most one write; a refusal is that of one write
  abbrev pub AsksToEvict : Result Bool Refused → D → D → Type 0
  AsksToEvict (Ok true) old new = WritesIt old (Ok tt) new ⊎ ((new ≡ old) × (is_dirty (read_of (s.cell p)) ≡ false))
  AsksToEvict (Ok false) old new = lets_go old p new ⊎ WritesInVain old new
  AsksToEvict (Err why) old new = WritesIt old (Err (fault_of why)) new

-- ---- a fetch
-- p's object has come near to a place with these bytes, and as many as it has
pub record HasGiven (still : Type 0) (s t : State) (p : ℕ) (place : Place) (bytes : List ℕ) : Type 0 where
  pub long : length bytes ≡ far_len (read_of (s.cell p))
  pub kept : t ≡ record (fetched s p place (packed_word bytes)) { word = t.word }
  pub forgot : Forgets (fetched s p place (packed_word bytes)) t
  pub exact : still → t ≡ fetched s p place (packed_word bytes)

module _ (D : Type 0) (reads : D → ℕ → Result (List ℕ) DeviceFault → D → Type 0) (lets_go : D → ℕ → D → Type 0) (still : Type 0) (s t : State) (p : ℕ) where
  -- one read: it came near with the bytes that were given, whatever they are
  abbrev pub ComesAsGiven : Place → D → D → Type 0
  ComesAsGiven place old new = (bytes : List ℕ) × reads old p (Ok bytes) new × HasGiven still s t p place bytes

  -- one read, and then its key let go of, since its owner was found to have dropped it meanwhile
  abbrev pub ReadsInVain : D → D → Type 0
  ReadsInVain old new = (bytes : List ℕ) × (between : D) × reads old p (Ok bytes) between × lets_go between p new × (is_dropped (read_of (s.cell p)) ≡ false)

  -- without room nothing; a refusal by the device is that of one read; damaged: what one read gave isn't as long as the object
  abbrev pub AsksToFetch : Result (Option Place) Refused → D → D → Type 0
  AsksToFetch (Ok (Some place)) old new = ComesAsGiven place old new
  AsksToFetch (Ok None) old new = lets_go old p new ⊎ ReadsInVain old new
  AsksToFetch (Err NoRoom) old new = new ≡ old
  AsksToFetch (Err Memory) old new = reads old p (Err fault.Memory) new
  AsksToFetch (Err Device) old new = reads old p (Err fault.Device) new
  AsksToFetch (Err Damaged) old new = (bytes : List ℕ) × reads old p (Ok bytes) new × (length bytes ≢ far_len (read_of (s.cell p)))
  AsksToFetch (Err why) old new = ⊥
