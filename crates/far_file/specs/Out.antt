-- Why no slot can be had.
use Rattle.std.specs.Prelude.{ℕ, ◌-◌, ◌^◌, ◌≤◌, Option, Some, None}
use Rattle.far_file.specs.declared.class.Want.{Want}
use Rattle.far_file.specs.declared.class.Want.TheVariants.{Memory, Slot, Extent}
use Rattle.far_file.specs.declared.extents.Extents.{Extents}

-- memory was refused; or so it is of the slots; or so of the extents
abbrev pub IsOut : Type 0 → Type 0 → Want → Type 0
IsOut owned none Memory = Unit {0}
IsOut owned none Slot = owned
IsOut owned none Extent = none

-- no number is left for another extent; of extents that devices share nothing is said
abbrev pub HasNoMore : ℕ → Option Extents → Type 0
HasNoMore below None = 2 ^ 32 - 1 ≤ below
HasNoMore below (Some extents) = Unit {0}
