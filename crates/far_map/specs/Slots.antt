-- The entries of an index.
use Rattle.std.specs.Prelude.{◌≡◌, ℕ, ◌<◌, Option, Some, None, List, [], ◌∷◌, ◌++◌}
use Rattle.std.specs.Option.{option_to_list, option_map}
use Rattle.std.specs.declared.hash.DefaultHasher.{DefaultHasher}
use Rattle.far_objects.specs.Far.{Far}
use Rattle.far_index.specs.declared.slot.Slot.{Slot}
use Rattle.far_index.specs.declared.slot.Slot.TheVariants.{Empty, Gone, Full}
use Rattle.far_index.specs.Slots.{slot_at}
use Rattle.far_index.specs.Tags.{tag_of}
use Rattle.far_map.specs.Entries.{Entry, entry_of, key_in}

-- what objects hold, by their numbers
abbrev pub Bytes : Type 0
Bytes = ℕ → Option (List ℕ)

abbrev pub entry_in : Bytes → Slot → Option Entry
entry_in bytes Empty = None
entry_in bytes Gone = None
entry_in bytes (Full tag number) = entry_of (bytes number)

abbrev pub entries_in : Bytes → List Slot → List Entry
entries_in bytes [] = []
entries_in bytes (s ∷ ss) = option_to_list (entry_in bytes s) ++ entries_in bytes ss

-- the key of the entry at i
abbrev pub key_at : Bytes → List Slot → ℕ → Option (List ℕ)
key_at bytes slots i = option_map (λ e. e.0) (entry_in bytes (slot_at slots i))

-- each number stands in one slot
abbrev pub Apart : List Slot → Type 0
Apart slots = (i j t u number : ℕ) → slot_at slots i ≡ Full t number → slot_at slots j ≡ Full u number → i ≡ j

-- each number in a slot has an object
abbrev pub Held : Far → List Slot → Type 0
Held far slots = (j tag number : ℕ) → slot_at slots j ≡ Full tag number → (n : ℕ) × (far.sizes number ≡ Some n)

-- each object has a slot
abbrev pub Owned : Far → List Slot → Type 0
Owned far slots = (number n : ℕ) → far.sizes number ≡ Some n → (j tag : ℕ) × (slot_at slots j ≡ Full tag number)

-- the object of each slot is an entry whose key has the slot's tag
abbrev pub Tagged : DefaultHasher → Bytes → List Slot → Type 0
Tagged seed bytes slots = (j tag number : ℕ) → slot_at slots j ≡ Full tag number → (key : List ℕ) × (key_in (bytes number) ≡ Some key) × (tag ≡ tag_of seed key)

-- no two slots have the same key
abbrev pub Distinct : Bytes → List Slot → Type 0
Distinct bytes slots = (i j : ℕ) (key : List ℕ) → key_at bytes slots i ≡ Some key → key_at bytes slots j ≡ Some key → i ≡ j

-- the slots below i are empty, and the objects are those of the others
pub record Left (i : ℕ) (far : Far) (slots : List Slot) : Type 0 where
  pub apart : Apart slots
  pub held : Held far slots
  pub owned : Owned far slots
  pub empty : (j : ℕ) → j < i → slot_at slots j ≡ Empty
