-- Why a call is refused.
use Rattle.std.specs.Prelude.{◌≡◌, ◌⊎◌, ℕ, nat_lt, ◌==◌, ◌&&◌, Bool, true, false, Option, Some, None, length, if◌then◌else◌}
use Rattle.far_word.specs.declared.refused.Refused.{Refused}
use Rattle.far_word.specs.declared.refused.Refused.TheVariants.{Length, Memory, NotHeld, Range}
use Rattle.far_objects.specs.Far.{is_length}
use Rattle.far_array.specs.Rows.{Rows}

-- bytes that aren't a record
abbrev pub wrong_length : ℕ → ℕ → Option Refused
wrong_length size n = if n == size then None else Some Length

-- a size that no record may have
abbrev pub wrong_size : ℕ → Option Refused
wrong_size size = if is_length size then None else Some Length

-- an access of record i by so many bytes
abbrev pub barred_at : Rows → ℕ → ℕ → Option Refused
barred_at rows i n = if nat_lt i (length rows.items) then wrong_length rows.size n else Some Range

-- an access of records from record i on, into so many bytes
abbrev pub barred_many : Rows → ℕ → ℕ → Option Refused
barred_many rows i n = if nat_lt i (length rows.items) then (if nat_lt n rows.size then Some Length else None) else Some Range

-- records i and j
abbrev pub barred_two : Rows → ℕ → ℕ → Option Refused
barred_two rows i j = if nat_lt i (length rows.items) && nat_lt j (length rows.items) then None else Some Range

-- what bars a call is why; where nothing does, the far side says why
abbrev pub IsWhy : Option Refused → (Refused → Type 0) → Refused → Type 0
IsWhy (Some bar) far why = why ≡ bar
IsWhy None far why = far why

-- an object that there is wasn't reached
abbrev pub IsWhyMissed : (Refused → Type 0) → Refused → Type 0
IsWhyMissed unreached NotHeld = ⊥
IsWhyMissed unreached Range = ⊥
IsWhyMissed unreached why = unreached why

-- values aren't given: there is no memory for them, or their object wasn't reached
abbrev pub IsWhyNotGiven : (Refused → Type 0) → Refused → Type 0
IsWhyNotGiven unreached Memory = Unit {0}
IsWhyNotGiven unreached NotHeld = ⊥
IsWhyNotGiven unreached Range = ⊥
IsWhyNotGiven unreached why = unreached why

-- no block was made: there is no memory for the list of blocks, or no object
abbrev pub IsWhyUnplaced : (Refused → Type 0) → Refused → Type 0
IsWhyUnplaced unmade Memory = Unit {0}
IsWhyUnplaced unmade Length = ⊥
IsWhyUnplaced unmade why = unmade why

-- an object of the right length wasn't made
abbrev pub IsWhyNotMade : (Refused → Type 0) → Refused → Type 0
IsWhyNotMade unmade Length = ⊥
IsWhyNotMade unmade why = unmade why

-- two records didn't change places: an object wasn't reached, or the new block wasn't made
abbrev pub IsWhyUnswapped : (Refused → Type 0) → (Refused → Type 0) → Refused → Type 0
IsWhyUnswapped unreached unmade why = IsWhyMissed unreached why ⊎ IsWhyNotMade unmade why

-- no record was put: into a block, or into a new one
abbrev pub IsWhyUnput : Bool → (Refused → Type 0) → (Refused → Type 0) → Refused → Type 0
IsWhyUnput true unreached unmade why = IsWhyMissed unreached why
IsWhyUnput false unreached unmade why = IsWhyUnplaced unmade why
