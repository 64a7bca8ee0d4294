-- Where slots are.
use Rattle.std.specs.Prelude.{◌≡◌, ℕ, zero, suc, ◌+◌, ◌*◌, ◌/◌, ◌%◌, ◌<◌, List, slice_index, if◌then◌else◌, nat_lt}
use Rattle.far_file.specs.declared.place.TheConstants.{SLOTS}

-- the class of the smallest slots with room for so many bytes
abbrev pub class_in : ℕ → ℕ
class_in n = if nat_lt 2048 n then 6 else if nat_lt 1024 n then 5 else if nat_lt 512 n then 4 else if nat_lt 256 n then 3 else if nat_lt 128 n then 2 else if nat_lt 64 n then 1 else 0

-- how many times 64 bytes a slot of a class has
abbrev pub scale : ℕ → ℕ
scale zero = 1
scale (suc c) = 2 * scale c

-- A class's slots follow those of the class below, all behind room for as many: so each begins at a multiple of its size.
-- In units of 64 bytes:
abbrev pub unit_in : ℕ → ℕ → ℕ
unit_in class slot = scale class * (SLOTS + slot)

-- its page, of 256 units, and where on it
abbrev pub page_in : ℕ → ℕ → ℕ
page_in class slot = unit_in class slot / 256

abbrev pub within_page : ℕ → ℕ → ℕ
within_page class slot = unit_in class slot % 256

-- where a slot is in storage, of which each page has an extent; 0 is none
abbrev pub slot_at : List ℕ → ℕ → ℕ → ℕ
slot_at extents class slot = 16384 * slice_index extents (page_in class slot) + 64 * within_page class slot

-- a page has an extent
abbrev pub HasExtent : List ℕ → ℕ → Type 0
HasExtent extents page = 0 < slice_index extents page

-- no two pages have one extent, and all are below a number
pub record AreApart (extents : List ℕ) (below : ℕ) : Type 0 where
  pub alone : (p q : ℕ) → HasExtent extents p → slice_index extents p ≡ slice_index extents q → p ≡ q
  pub low : (p : ℕ) → slice_index extents p < below

-- pages keep the extents that they have
abbrev pub KeepsExtents : List ℕ → List ℕ → Type 0
KeepsExtents old new = (p : ℕ) → HasExtent old p → slice_index new p ≡ slice_index old p
