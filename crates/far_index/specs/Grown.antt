-- An index with one entry more, and one made anew.
use Rattle.std.specs.Prelude.{◌≡◌, ◌≢◌, ℕ, ◌<◌, ◌≤◌, List, length}
use Rattle.far_index.specs.declared.slot.Slot.{Slot}
use Rattle.far_index.specs.declared.slot.Slot.TheVariants.{Empty, Full}
use Rattle.far_index.specs.Slots.{slot_at, home, Reached}

-- a slot with no entry got an entry's tag and number, at its home or later, past slots that aren't empty
pub record Placed (buckets tag number : ℕ) (old new : List Slot) : Type 0 where
  pub place : ℕ
  pub longer : length old ≤ length new
  pub free : (t h : ℕ) → slot_at old place ≢ Full t h
  pub slot : slot_at new place ≡ Full tag number
  pub others : (j : ℕ) → j ≢ place → slot_at new j ≡ slot_at old j
  pub low : home buckets tag ≤ place
  pub full : (i : ℕ) → home buckets tag ≤ i → i < place → slot_at old i ≢ Empty

-- the new index has the entries of the first n slots of the old one
pub record Grown (buckets n : ℕ) (old new : List Slot) : Type 0 where
  pub fits : buckets ≤ length new
  pub reached : Reached buckets new
  pub from : (j tag number : ℕ) → slot_at new j ≡ Full tag number → (i : ℕ) × (i < n) × (slot_at old i ≡ Full tag number)
  pub into : (i tag number : ℕ) → i < n → slot_at old i ≡ Full tag number → (j : ℕ) × (slot_at new j ≡ Full tag number)
  pub apart : ((i j t u number : ℕ) → slot_at old i ≡ Full t number → slot_at old j ≡ Full u number → i ≡ j) →
      (i j t u number : ℕ) → slot_at new i ≡ Full t number → slot_at new j ≡ Full u number → i ≡ j
