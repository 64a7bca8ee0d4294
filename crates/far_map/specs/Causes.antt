-- Why a call of a map was refused: by what its worker may say.
use Rattle.std.specs.Prelude.{◌≡◌, ℕ, ◌+◌, ◌⊎◌, nat_le, Bool, true, false, List, length}
use Rattle.far_word.specs.declared.refused.Refused.{Refused}
use Rattle.far_word.specs.declared.refused.Refused.TheVariants.{Length, Memory}
use Rattle.far_objects.specs.declared.objects.TheConstants.{MOST}

-- an entry that one object has room for
abbrev pub is_entry : List ℕ → List ℕ → Bool
is_entry key value = nat_le (2 + length key + length value) MOST

-- an object wasn't reached, or there was no memory for what was read
abbrev pub IsWhyRead : (Bool → Refused → Type 0) → Bool → Refused → Type 0
IsWhyRead unreached honest why = (why ≡ Memory) ⊎ unreached honest why

-- the entry has no room in an object; or an object wasn't made or reached, or there was no memory
abbrev pub IsWhyPut : (Refused → Type 0) → (Bool → Refused → Type 0) → Bool → Bool → Refused → Type 0
IsWhyPut unmade unreached honest true why = (why ≡ Memory) ⊎ (unmade why ⊎ unreached honest why)
IsWhyPut unmade unreached honest false why = why ≡ Length
