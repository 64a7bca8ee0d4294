-- What is true of each mutator between any two of its calls.
use Rattle.std.specs.Prelude.{◌≡◌, ℕ, ◌<◌, ◌≤◌, true, false, Some, None, List, length, slice_index}
use Rattle.far_word.specs.declared.sizes.TheConstants.{CELLS, LONGEST, MOST_MUTATORS}
use Rattle.far_heap.specs.Mine.{Mine, bytes_in, len_in, soils, uses, views}

-- the bytes of a pointer's object are known: as many as it has, each below 256
abbrev pub KnowsBytes : Mine → ℕ → Type 0
KnowsBytes m p = (bytes : List ℕ) × (bytes_in m p ≡ Some bytes) × (length bytes ≡ len_in m p) × ((k : ℕ) → slice_index bytes k < 256)

pub record MineLaw (m : Mine) : Type 0 where
  -- it is one of eight, with 256 pointers
  pub few : m.number < MOST_MUTATORS
  pub many : (length m.objects ≡ CELLS) × (length m.viewed ≡ CELLS) × (length m.soiled ≡ CELLS) × (length m.asked ≡ CELLS)
  -- what is viewed is used, and nothing is viewed while the scope is closed
  pub used : (p : ℕ) → views m p ≡ true → uses m p ≡ true
  pub closed : m.opened ≡ false → (p : ℕ) → views m p ≡ false
  -- what is soiled is viewed
  pub soiled : (p : ℕ) → soils m p ≡ true → views m p ≡ true
  -- an object has 1 to 4,088 bytes
  pub some : (p : ℕ) → uses m p ≡ true → 0 < len_in m p
  pub most : (p : ℕ) → uses m p ≡ true → len_in m p ≤ LONGEST
  -- they are known where the far side is honest, and nowhere else
  pub known : m.honest ≡ true → (p : ℕ) → uses m p ≡ true → KnowsBytes m p
  pub unknown : m.honest ≡ false → (p : ℕ) → bytes_in m p ≡ None
