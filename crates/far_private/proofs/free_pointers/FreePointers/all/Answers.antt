use Rattle.std.proofs.Common.{◌^◌, ◌-◌, arith, refl}
use Rattle.std.proofs.lemmas.Nat.Bits.{bit_at_ones}
use Rattle.far_private.specs.FreePointers.{has}
use Rattle.far_private.proofs.FreeWords.{all_set, all_there}
use Rattle.far_private.proofs.free_pointers.FreePointers.all.Goals as goal

pub invariant_of-result : goal.invariant_of-result
invariant_of-result c = record { summary_is = record { sized = refl; each = all_there 32 (2 ^ 64 - 1) (2 ^ 32 - 1) (λ z. absurd (omega (arith, z))) (bit_at_ones 32) } }

pub returns : goal.returns
unfolding has
returns c p lt = all_set 32 (2 ^ 64 - 1) (bit_at_ones 64) p (omega (arith, lt))
