-- Why a call of a map of entries of any length was refused: by what its workers may say.
use Rattle.std.specs.Prelude.{◌≡◌, ℕ, ◌+◌, ◌⊎◌, nat_le, Bool, true, false, List, length}
use Rattle.far_word.specs.declared.refused.Refused.{Refused}
use Rattle.far_word.specs.declared.refused.Refused.TheVariants.{Length, Memory}
use Rattle.far_objects.specs.declared.objects.TheConstants.{MOST}
use Rattle.far_dict.specs.Dictionaries.{Dictionary}

-- a key that may have a value
abbrev pub is_key : List ℕ → Bool
is_key key = nat_le (2 + length key) MOST

-- an object of either worker wasn't reached, or there was no memory for what was read
abbrev pub IsWhyRead : (Bool → Refused → Type 0) → Dictionary → Refused → Type 0
IsWhyRead unreached d why = (why ≡ Memory) ⊎ (unreached d.honest why ⊎ unreached d.honest_long why)

-- the key is too long; or an object wasn't made or reached, or there was no memory
abbrev pub IsWhyPut : (Refused → Type 0) → (Bool → Refused → Type 0) → Bool → Bool → Refused → Type 0
IsWhyPut unmade unreached honest true why = (why ≡ Memory) ⊎ (unmade why ⊎ unreached honest why)
IsWhyPut unmade unreached honest false why = why ≡ Length
