-- Where a look-up found an entry, and that each object is an entry.
use Rattle.std.specs.Prelude.{◌≡◌, ℕ, ◌<◌, ◌≤◌, Some, List, length}
use Rattle.std.specs.FinMap as map
use Rattle.far_objects.specs.Far.{Far}
use Rattle.far_objects.specs.declared.objects.TheConstants.{MOST}
use Rattle.far_index.specs.declared.slot.Slot.{Slot}
use Rattle.far_index.specs.declared.slot.Slot.TheVariants.{Full}
use Rattle.far_index.specs.Slots.{slot_at}
use Rattle.far_map.specs.declared.lookup.Found.{Found}
use Rattle.far_map.specs.Entries.{entry_of}
use Rattle.far_map.specs.Table.{Entries}

-- a slot has the tag, and the number of the object
pub record Stands (tag : ℕ) (slots : List Slot) (found : Found) : Type 0 where
  pub within : found.place < length slots
  pub slot : slot_at slots found.place ≡ Full tag found.number
  pub most : found.len ≤ MOST

-- each object is an entry, and no two are of one key. That each entry has an object isn't said
pub record AreEntries (far : Far) (entries : Entries) : Type 0 where
  pub each : (number n : ℕ) → far.sizes number ≡ Some n → (key value : List ℕ) × (entry_of (far.bytes number) ≡ Some (key, value)) × (map.get entries key ≡ Some value)
  pub once : (h k m n : ℕ) (key v w : List ℕ) → far.sizes h ≡ Some m → far.sizes k ≡ Some n → entry_of (far.bytes h) ≡ Some (key, v) → entry_of (far.bytes k) ≡ Some (key, w) → h ≡ k
