-- What a device over storage was given, what it counts, and what its calls are.
use Rattle.std.specs.Prelude.{◌≡◌, ℕ, ◌+◌, ◌%◌, ◌^◌, Bool, ◌||◌, cond, List, length, Option, Some, None, IfSome, Result, Ok, IfOk, OnOk}
use Rattle.far_device.specs.Contents.{KeepsOthers}
use Rattle.far_device.specs.Faults.{is_fault}
use Rattle.far_file.specs.Row.{bytes_in, entry_in, place_of}
use Rattle.far_device.specs.declared.fault.DeviceFault.{DeviceFault}
use Rattle.far_file.specs.declared.sealed.SealedDevice.{SealedDevice}
use Rattle.far_file.specs.declared.fault.StorageFault.{StorageFault}
use Rattle.far_file.specs.declared.storage.Storage.{Ghosts}
use Rattle.far_file.specs.declared.seal.Seal as seal

-- the count after a call that was a fault or none, modulo 2^64
abbrev pub counted : Bool → ℕ → ℕ
counted fault n = cond fault ((n + 1) % 2 ^ 64) n

-- the storage answered so when these bytes were put somewhere
abbrev pub puts_somewhere : {F : Type 0} → (F → ℕ → List ℕ → Result (Unit {0}) StorageFault → F → Type 0) → F → List ℕ → F → Result (Unit {0}) StorageFault → Type 0
puts_somewhere puts old bytes new answer = (at : ℕ) × puts old at bytes answer new

module _ {F L : Type 0} {g : Ghosts F} {l : seal.Ghosts L} where
  -- the bytes that were written under a key
  abbrev pub bytes_at : SealedDevice F L g l → ℕ → Option (List ℕ)
  bytes_at d id = bytes_in d.row.items id

  -- where they are in the storage
  abbrev pub place_at : SealedDevice F L g l → ℕ → ℕ
  place_at d id = place_of d.room.extents.items (entry_in d.row.items id)

  -- how many calls failed, modulo 2^64
  abbrev pub faults_of : SealedDevice F L g l → ℕ
  faults_of d = d.faults % 2 ^ 64

  -- it is honest if its seals are exact or its storage is honest
  abbrev pub is_honest : SealedDevice F L g l → Bool
  is_honest d = l.exact || g.honest d.storage

  -- a write: the bytes are under the key if it succeeded, by one call of the storage; all other keys keep what they had
  abbrev pub SealedWrites : SealedDevice F L g l → ℕ → List ℕ → Result (Unit {0}) DeviceFault → SealedDevice F L g l → Type 0
  SealedWrites old id bytes answer new =
      KeepsOthers (bytes_at old) (bytes_at new) id × (faults_of new ≡ counted (is_fault answer) (faults_of old)) × (is_honest new ≡ is_honest old) × OnOk answer (bytes_at new id ≡ Some bytes)
      × IfOk answer (λ done. g.puts old.storage (place_at new id) bytes (Ok done) new.storage)

  -- a read: all keys keep what they had; the bytes that it gives are those of one call of the storage
  abbrev pub SealedReads : SealedDevice F L g l → ℕ → Result (List ℕ) DeviceFault → SealedDevice F L g l → Type 0
  SealedReads old id answer new =
      (bytes_at new ≡ bytes_at old) × (faults_of new ≡ counted (is_fault answer) (faults_of old)) × (new.storage ≡ old.storage)
      × IfSome (bytes_at old id) (λ stored. IfOk answer (λ bytes. g.gets old.storage (place_at old id) (length stored) (Ok bytes)))

  -- a key let go of
  abbrev pub SealedLetsGo : SealedDevice F L g l → ℕ → SealedDevice F L g l → Type 0
  SealedLetsGo old id new = (bytes_at new id ≡ None) × KeepsOthers (bytes_at old) (bytes_at new) id × (faults_of new ≡ faults_of old) × (new.storage ≡ old.storage)
