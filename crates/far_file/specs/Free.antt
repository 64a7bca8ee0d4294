-- Slots that nobody has, slots that keys have, and what a change leaves of all others.
use Rattle.std.specs.Prelude.{◌≡◌, ℕ, ◌<◌, ◌≤◌, ◌⊎◌, Option, Some, None}
use Rattle.far_file.specs.declared.place.TheConstants.{KEYS, SLOTS}

-- what a slot names isn't a key: nobody has it
abbrev pub IsFree : Option ℕ → Type 0
IsFree owner = (key : ℕ) → owner ≡ Some key → KEYS ≤ key

-- a key has it
abbrev pub IsOwned : Option ℕ → Type 0
IsOwned None = ⊥
IsOwned (Some key) = key < KEYS

-- keys have all slots that a class may have
abbrev pub AreOwned : (ℕ → Option ℕ) → Type 0
AreOwned owner = (slot : ℕ) → slot < SLOTS → IsOwned (owner slot)

-- who has a slot keeps it
abbrev pub KeepsSlots : (ℕ → Option ℕ) → (ℕ → Option ℕ) → Type 0
KeepsSlots old new = (slot key : ℕ) → key < KEYS → old slot ≡ Some key → new slot ≡ Some key

abbrev pub KeepsOwned : (ℕ → ℕ → Option ℕ) → (ℕ → ℕ → Option ℕ) → Type 0
KeepsOwned old new = (class slot key : ℕ) → key < KEYS → old class slot ≡ Some key → new class slot ≡ Some key

-- all but this one are as they were
abbrev pub KeepsSlotsBut : (ℕ → Option ℕ) → (ℕ → Option ℕ) → ℕ → Type 0
KeepsSlotsBut old new one = (slot : ℕ) → (slot ≡ one) ⊎ (new slot ≡ old slot)

abbrev pub KeepsOwnedBut : (ℕ → ℕ → Option ℕ) → (ℕ → ℕ → Option ℕ) → ℕ → ℕ → Type 0
KeepsOwnedBut old new those one = (class slot : ℕ) → ((class ≡ those) × (slot ≡ one)) ⊎ (new class slot ≡ old class slot)
