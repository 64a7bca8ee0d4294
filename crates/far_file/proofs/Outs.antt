-- Why no slot can be had.
use Rattle.std.proofs.Common.{◌≡◌, ◌<◌, ◌≤◌, ◌-◌, ◌^◌, ◌⊎◌, inl, inr, ℕ, Option, Some, None, IfNone, arith}
use Rattle.far_file.specs.Out.{HasNoMore, IsOut}
use Rattle.far_file.specs.declared.class.Want.{Want}
use Rattle.far_file.specs.declared.class.Want.TheVariants.{Memory, Slot, Extent}
use Rattle.far_file.specs.declared.extents.Extents.{Extents}

-- for want of a slot, and of an extent
pub no_slot : (owned none : Type 0) (want : Want) → IsOut owned ⊥ want → IsOut owned none want
no_slot owned none Memory out = tt
no_slot owned none Slot out = out
no_slot owned none Extent out = absurd out

-- a number that isn't taken
pub none_left : (shared : Option Extents) (below number : ℕ) → IfNone shared (number ≡ below) → (number < below) ⊎ (2 ^ 32 - 1 ≤ number) → HasNoMore below shared
none_left (Some extents) below number is out = tt
none_left None below number is (inl less) = absurd (omega (arith, is, less))
none_left None below number is (inr more) = omega (arith, is, more)
