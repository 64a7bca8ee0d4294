-- Why a device over storage failed, and which fault a word tells.
use Rattle.std.specs.Prelude.{◌≡◌, ◌≢◌, ◌⊎◌, ℕ, ◌/◌, ◌%◌, Bool, false, List, Option, Some, None, Result, Err}
use Rattle.std.specs.declared.io.ErrorKind.{ErrorKind}
use Rattle.std.specs.declared.io.ErrorKind.TheVariants.{FileTooLarge, QuotaExceeded, StorageFull, UnexpectedEof, WriteZero}
use Rattle.far_file.specs.declared.fault.FileFault.{FileFault}
use Rattle.far_file.specs.declared.fault.FileFault.TheVariants.{NoSlot, Nothing, Misfit, Storage}
use Rattle.far_file.specs.declared.fault.StorageFault.{StorageFault}
use Rattle.far_file.specs.declared.fault.StorageFault.TheVariants.{Memory, Short, Full, Medium, Interrupted, Failed}
use Rattle.far_file.specs.declared.last_fault.KeyFault.{KeyFault}

-- the number of a fault, 1 to 9
abbrev pub fault_number : FileFault → ℕ
fault_number NoSlot = 1
fault_number Nothing = 2
fault_number Misfit = 3
fault_number (Storage Memory) = 4
fault_number (Storage Short) = 5
fault_number (Storage Full) = 6
fault_number (Storage Medium) = 7
fault_number (Storage Interrupted) = 8
fault_number (Storage Failed) = 9

-- a word tells no fault, or one: its number in the four low bits, the key above them
abbrev pub Tells : ℕ → Option KeyFault → Type 0
Tells word None = word % 16 ≡ 0
Tells word (Some told) = (word % 16 ≡ fault_number told.why) × (word / 16 ≡ told.key)

-- an error of the system by which there was no room for bytes
abbrev pub IsOfRoom : ErrorKind → Type 0
IsOfRoom kind = (kind ≡ StorageFull) ⊎ (kind ≡ QuotaExceeded) ⊎ (kind ≡ FileTooLarge) ⊎ (kind ≡ WriteZero)

-- what an error of the system is to storage
pub record IsTold (kind : ErrorKind) (fault : StorageFault) : Type 0 where
  pub short : kind ≡ UnexpectedEof → fault ≡ Short
  pub full : IsOfRoom kind → fault ≡ Full
  pub failed : kind ≢ UnexpectedEof → (IsOfRoom kind → ⊥) → fault ≡ Failed

-- each of those errors is told as Full
abbrev pub RoomIsToldFull : Type 0
RoomIsToldFull = (fault : StorageFault) → (IsTold StorageFull fault → fault ≡ Full) × (IsTold QuotaExceeded fault → fault ≡ Full)
    × (IsTold FileTooLarge fault → fault ≡ Full) × (IsTold WriteZero fault → fault ≡ Full)

-- why a write may fail whose key may have a slot with room for the bytes: no slot was left, and the storage wasn't asked; or its call answered so
abbrev pub CanStopWrite : Type 0 → (Result (Unit {0}) StorageFault → Type 0) → FileFault → Type 0
CanStopWrite unasked answers NoSlot = unasked
CanStopWrite unasked answers Nothing = ⊥
CanStopWrite unasked answers Misfit = ⊥
CanStopWrite unasked answers (Storage of) = answers (Err of)

-- why a read may fail of a key under which something is, if the storage's call gave this; storage that is honest gives no other bytes
abbrev pub CanStopRead : Bool → (Result (List ℕ) StorageFault → Type 0) → FileFault → Type 0
CanStopRead honest gives NoSlot = ⊥
CanStopRead honest gives Nothing = ⊥
CanStopRead honest gives Misfit = honest ≡ false
CanStopRead honest gives (Storage of) = gives (Err of)

-- so a write, or a read, of this key failed
abbrev pub StoppedWrite : Type 0 → (Result (Unit {0}) StorageFault → Type 0) → ℕ → Option KeyFault → Type 0
StoppedWrite unasked answers key None = ⊥
StoppedWrite unasked answers key (Some told) = (told.key ≡ key) × CanStopWrite unasked answers told.why

abbrev pub StoppedRead : Bool → (Result (List ℕ) StorageFault → Type 0) → ℕ → Option KeyFault → Type 0
StoppedRead honest gives key None = ⊥
StoppedRead honest gives key (Some told) = (told.key ≡ key) × CanStopRead honest gives told.why
