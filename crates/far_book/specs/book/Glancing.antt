-- A look at a far object that stays far, over a core of the book's own.
use Rattle.std.specs.Prelude.{◌≡◌, ◌≢◌, ℕ, ◌+◌, Bool, true, Option, Result, Ok, Err, IfErr, OnOk, List, length, slice_range}
use Rattle.far_word.specs.declared.refused.Refused.{Refused}
use Rattle.far_word.specs.declared.refused.Refused.TheVariants.{Memory, Device, Damaged}
use Rattle.far_word.specs.Bytes.{bytes_of}
use Rattle.far_word.specs.Pointer.{read_of}
use Rattle.far_events.specs.state.State.{State}
use Rattle.far_device.specs.declared.fault.DeviceFault.{DeviceFault}
use Rattle.far_device.specs.declared.fault.DeviceFault.TheVariants as fault
use Rattle.far_hand.specs.declared.plain.Plain.{Plain}
use Rattle.far_book.specs.book.BookOf.{BookOf}
use Rattle.far_book.specs.book.Fetching.{far_len}
use Rattle.far_book.specs.book.Placing.{core_in}

-- how many bytes the far object of a pointer has
abbrev pub len_there : State → ℕ → ℕ
len_there s p = far_len (read_of (s.cell p))

-- those that were stored of it last
abbrev pub bytes_there : State → ℕ → List ℕ
bytes_there s p = bytes_of (s.stored p) (len_there s p)

-- what the device was asked: one read of this object. It was refused, or gave more or fewer bytes than the object has; or these are a range of what it gave
abbrev pub AsksToGlance : (D : Type 0) → (D → ℕ → Result (List ℕ) DeviceFault → D → Type 0) → State → ℕ → ℕ → List ℕ → Result (Unit {0}) Refused → D → D → Type 0
AsksToGlance D reads s p from out (Ok done) old new = (bytes : List ℕ) × reads old p (Ok bytes) new × (length bytes ≡ len_there s p) × (out ≡ slice_range bytes from (from + length out))
AsksToGlance D reads s p from out (Err Memory) old new = reads old p (Err fault.Memory) new
AsksToGlance D reads s p from out (Err Device) old new = reads old p (Err fault.Device) new
AsksToGlance D reads s p from out (Err Damaged) old new = (bytes : List ℕ) × reads old p (Ok bytes) new × (length bytes ≢ len_there s p)
AsksToGlance D reads s p from out (Err why) old new = ⊥

-- a range of a far object was read where it is, or that was refused: words, order and what the device holds are as before
pub record Glances {D : Type 0} (reads : D → ℕ → Result (List ℕ) DeviceFault → D → Type 0) (contents : D → ℕ → Option (List ℕ)) (old new : BookOf Plain D) (p from : ℕ) (out : List ℕ) (result : Result (Unit {0}) Refused) : Type 0 where
  pub near : new.near ≡ old.near
  pub order : new.order ≡ old.order
  pub held : contents new.device ≡ contents old.device
  -- where the far side is honest it is what was stored last, and never of another length
  pub read : (core_in old).honest ≡ true → OnOk result (out ≡ slice_range (bytes_there (core_in old) p) from (from + length out))
  pub whole : (core_in old).honest ≡ true → result ≢ Err Damaged
  pub called : AsksToGlance D reads (core_in old) p from out result old.device new.device
