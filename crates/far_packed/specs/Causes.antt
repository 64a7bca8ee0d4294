-- Why no value is made.
use Rattle.std.specs.Prelude.{◌≡◌, ◌⊎◌}
use Rattle.far_word.specs.declared.refused.Refused.{Refused}
use Rattle.far_word.specs.declared.refused.Refused.TheVariants.{Length, Memory}

-- there is no near room for it; or the worker makes no object
abbrev pub OrMemory : (Refused → Type 0) → Refused → Type 0
OrMemory unmade why = (why ≡ Memory) ⊎ unmade why

-- why there is no room for a value whose length is one
abbrev pub IsWhyNoRoom : (Refused → Type 0) → Refused → Type 0
IsWhyNoRoom unmade Length = ⊥
IsWhyNoRoom unmade why = OrMemory unmade why
