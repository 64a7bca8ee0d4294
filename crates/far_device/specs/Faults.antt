-- What faults a call of a device counts.
use Rattle.std.specs.Prelude.{◌≡◌, ◌≢◌, ℕ, zero, suc, Bool, true, false, Result, Ok, Err}
use Rattle.far_device.specs.declared.fault.DeviceFault.{DeviceFault}
use Rattle.far_device.specs.declared.fault.DeviceFault.TheVariants.{Memory, Device}

-- a call has answered that the device failed
abbrev pub is_fault : {A : Type 0} → Result A DeviceFault → Bool
is_fault (Ok x) = false
is_fault (Err Memory) = false
is_fault (Err Device) = true

-- the count of faults changes exactly with a fault
abbrev pub CountsFault : Bool → ℕ → ℕ → Type 0
CountsFault true old new = new ≢ old
CountsFault false old new = new ≡ old

-- where so many faults at most were to come, a fault leaves one less, and there is none where none was to come
abbrev pub SpendsFault : Bool → (ℕ → Type 0) → (ℕ → Type 0) → Type 0
SpendsFault true old new = (old zero → ⊥) × ((n : ℕ) → old (suc n) → new n)
SpendsFault false old new = (n : ℕ) → old n → new n
