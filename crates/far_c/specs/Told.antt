-- Statuses.
use Rattle.std.specs.Prelude.{◌≡◌, ◌⊎◌, ℤ, pos}
use Rattle.far_word.specs.declared.refused.Refused.{Refused}
use Rattle.far_word.specs.Refused.{refusal_number}
use Rattle.far_word.specs.declared.sizes.TheConstants.{LONGEST}
use Rattle.far_pool.specs.Plans.{IsLaid, IsUnplanned}
use Rattle.far_pool.specs.declared.plan.Layout.{Layout}
use Rattle.far_pool.specs.declared.plan.Plan.{Plan}
use Rattle.far_pool.specs.declared.plan.Unplanned.{Unplanned}
use Rattle.far_pool.specs.declared.plan.Unplanned.TheVariants.{Length, Near, Objects}
use Rattle.far_c.specs.declared.map_opening.FarMapPlan.{FarMapPlan}

-- a status is the number of a refusal that came for this cause
abbrev pub IsToldBy : (Refused → Type 0) → ℤ → Type 0
IsToldBy Cause status = (why : Refused) × (status ≡ pos (refusal_number why)) × Cause why

-- the status of a plan that can't be laid out
abbrev pub unplanned_number : Unplanned → ℤ
unplanned_number Length = pos 4
unplanned_number (Objects most) = pos 22
unplanned_number (Near least) = pos 23

-- a plan can't be laid out, and this is its status
abbrev pub IsUnlaid : Plan → ℤ → Type 0
IsUnlaid plan status = (why : Unplanned) × (status ≡ unplanned_number why) × IsUnplanned plan why

-- a plan can be laid out
abbrev pub IsLayable : Plan → Type 0
IsLayable plan = (l : Layout) × IsLaid plan l

-- why a worker wasn't opened: its plan can't be laid out; else memory was refused
abbrev pub IsWhyShut : Plan → ℤ → Type 0
IsWhyShut plan status = ((status ≡ pos 1) × IsLayable plan) ⊎ IsUnlaid plan status

-- the plans of a map's two workers: of the entries that an object has room for, and of the others' values, whose objects have 4,088 bytes
abbrev pub short_plan : FarMapPlan → Plan
short_plan p = record { near = p.near; objects = p.entries; typical = p.typical }

abbrev pub long_plan : FarMapPlan → Plan
long_plan p = record { near = p.long_near; objects = p.long_parts; typical = LONGEST }

-- why a map wasn't opened: the first plan of its workers can't be laid out; else the other can't; else memory was refused
abbrev pub IsWhyNoMap : Plan → Plan → ℤ → Type 0
IsWhyNoMap short long status = ((status ≡ pos 1) × IsLayable short × IsLayable long) ⊎ (IsUnlaid short status ⊎ (IsLayable short × IsUnlaid long status))
