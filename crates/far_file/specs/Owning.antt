-- Which key has each slot of a device.
use Rattle.std.specs.Prelude.{ℕ, List, Option}
use Rattle.std.specs.List.{slice_get}
use Rattle.std.specs.Option.{option_and_then}
use Rattle.far_file.specs.declared.class.Class.{Class}

-- its key, or a number above the keys if it is free; none, if there is no such slot yet
abbrev pub owner_in : List Class → ℕ → ℕ → Option ℕ
owner_in classes class slot = option_and_then (λ those. slice_get those.owners.items slot) (slice_get classes class)
