-- Why calls are refused, as the heap and its device stand once they are.
use Rattle.std.specs.Prelude.{◌≡◌, ◌≢◌, ◌⊎◌, ℕ, ◌+◌, ◌<◌, ◌≤◌, true, false, Option, Some, None, IsSome, IfSome, List, length, Result, Ok, Err}
use Rattle.far_word.specs.declared.refused.Refused.{Refused}
use Rattle.far_word.specs.declared.refused.Refused.TheVariants.{Damaged, Device, EpochsSpent, Memory, NoRoom}
use Rattle.far_word.specs.declared.sizes.TheConstants.{LOG_WORDS}
use Rattle.far_word.specs.Pointer.{read_of}
use Rattle.far_core.specs.state.Room.{free_logs, room}
use Rattle.far_events.specs.state.State.{State}
use Rattle.far_device.specs.declared.fault.DeviceFault.{DeviceFault}
use Rattle.far_device.specs.declared.fault.DeviceFault.TheVariants as fault
use Rattle.far_book.specs.book.Dealing.{goal}
use Rattle.far_book.specs.book.Fetching.{far_len, room_for}
use Rattle.far_alone.specs.Dereference.{says_near}
use Rattle.far_private.specs.Objects.{Object, objects_of}

-- no log has room for so many words of a new object, or of one that is to come: the open log ends before it, and one log at most is free, which is left to moves
pub record IsFullFor (s : State) (size : ℕ) : Type 0 where
  pub open_log : LOG_WORDS < s.tail s.current + size
  pub reserve : length (free_logs s) ≤ 1

-- that is what it means that there is no room
abbrev pub NoRoomIsFull : Type 0
NoRoomIsFull = (s : State) (size : ℕ) → room s size true ≡ None → IsFullFor s size

-- the refusals of a call that has no room: none is left once rounds were made; or no round can be made, since 2^62 were
abbrev pub IsWant : Refused → Type 0
IsWant NoRoom = Unit {0}
IsWant EpochsSpent = Unit {0}
IsWant why = ⊥

-- the refusals of a device that was asked for an object: no room is wanted
abbrev pub IsFault : Refused → Type 0
IsFault Memory = Unit {0}
IsFault Device = Unit {0}
IsFault Damaged = Unit {0}
IsFault why = ⊥

-- what a call that found no room answers, by what its last round came to
abbrev pub told : Refused → Result (Unit {0}) Refused → Refused
told NoRoom (Err last) = last
told why made = why

-- a near object is to move, and no log has room for it, not even the last free one
pub record IsCrowded (s : State) (p : ℕ) (why : Refused) : Type 0 where
  pub is : IsWant why
  pub near : says_near (read_of (s.cell p)) ≡ true
  pub none : goal s p ≡ None

module _ (D : Type 0) (reads : D → ℕ → Result (List ℕ) DeviceFault → D → Type 0) where
  -- why a far object doesn't come: there is no room for it, in the open log or in a free one but the last; or the last thing that the device was asked was a read of it,
  -- which had this fault, or gave more or fewer bytes than the object has, as no honest far side does
  abbrev pub WhyFar : State → ℕ → D → Refused → Type 0
  WhyFar s p device NoRoom = room_for s p ≡ None
  WhyFar s p device EpochsSpent = room_for s p ≡ None
  WhyFar s p device Memory = (before : D) × reads before p (Err fault.Memory) device
  WhyFar s p device Device = (before : D) × reads before p (Err fault.Device) device
  WhyFar s p device Damaged = (s.honest ≡ false) × (before : D) × (bytes : List ℕ) × reads before p (Ok bytes) device × (length bytes ≢ far_len (read_of (s.cell p)))
  WhyFar s p device why = ⊥

  -- an object is far, and stays so
  pub record StaysFar (s : State) (p : ℕ) (device : D) (why : Refused) : Type 0 where
    pub far : says_near (read_of (s.cell p)) ≡ false
    pub cause : WhyFar s p device why

  -- what a user may know of it: a device of this type, in some state, was asked for this object, of so many bytes, and failed so, or gave more or fewer. Which, and when, isn't said
  abbrev pub IsNotGiven : ℕ → ℕ → Refused → Type 0
  IsNotGiven p len Memory = (before : D) × (after : D) × reads before p (Err fault.Memory) after
  IsNotGiven p len Device = (before : D) × (after : D) × reads before p (Err fault.Device) after
  IsNotGiven p len Damaged = (before : D) × (bytes : List ℕ) × (after : D) × reads before p (Ok bytes) after × (length bytes ≢ len)
  IsNotGiven p len why = Unit {0}

  -- an object doesn't come to where it may be held
  abbrev pub StaysAway : State → ℕ → D → Refused → Type 0
  StaysAway s p device why = StaysFar s p device why ⊎ IsCrowded s p why

-- ---- what a user may know of it: a device of this type, in some state, was asked to take an object as it is, and refused. Which, and when, isn't said
module _ (D : Type 0) (writes : D → ℕ → List ℕ → Result (Unit {0}) DeviceFault → D → Type 0) where
  pub record IsNotTaken (object : ℕ → Option Object) : Type 0 where
    pub pointer : ℕ
    pub is : Object
    pub found : object pointer ≡ Some is
    -- its bytes; which they are is known over an honest far side
    pub bytes : List ℕ
    pub long : length bytes ≡ is.len
    pub own : IfSome is.bytes (λ all. bytes ≡ all)
    -- the write that was refused
    pub before : D
    pub fault : DeviceFault
    pub after : D
    pub refused : writes before pointer bytes (Err fault) after

  -- a heap of three logs or more has no room only then
  abbrev pub IsStuck : State → Refused → Type 0
  IsStuck s NoRoom = 3 ≤ s.logs → IsNotTaken (objects_of s).object
  IsStuck s why = Unit {0}
