-- Why a line wasn't put: by what the worker may say.
use Rattle.std.specs.Prelude.{◌≡◌, ◌⊎◌, ◌<◌, ℕ, Bool, false}
use Rattle.far_word.specs.declared.refused.Refused.{Refused}
use Rattle.far_word.specs.declared.refused.Refused.TheVariants.{Damaged, Length, Memory}

-- an object wasn't reached, or there was no memory; or it has other bytes than were put, which none has where the far side is honest
abbrev pub IsWhyUnread : (Bool → Refused → Type 0) → Bool → Refused → Type 0
IsWhyUnread unreached honest why = (why ≡ Memory) ⊎ (unreached honest why ⊎ ((why ≡ Damaged) × (honest ≡ false)))

-- the line is empty; or an object wasn't made, or wasn't read
abbrev pub IsWhyPut : (Refused → Type 0) → (Bool → Refused → Type 0) → Bool → ℕ → Refused → Type 0
IsWhyPut unmade unreached honest len why = ((why ≡ Length) × (len ≡ 0)) ⊎ ((0 < len) × (unmade why ⊎ IsWhyUnread unreached honest why))
