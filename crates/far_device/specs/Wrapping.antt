-- Counts that wrap.
use Rattle.std.specs.Prelude.{ℕ, ◌%◌, ◌^◌, ◌<◌}
use Rattle.std.proofs.lemmas.Nat.{mod_below, pow_pos}

-- what is left of a count modulo 2^64 has 64 bits
pub wrapped_below : (n : ℕ) → n % 2 ^ 64 < 2 ^ 64
wrapped_below n = mod_below n (2 ^ 64) (pow_pos 64)
