-- Words of bits, and a word that says which of them have one.
use Rattle.std.specs.Prelude.{◌≡◌, ◌<◌, ◌/◌, ◌%◌, ◌==◌, ℕ, Bool, List, length, not, slice_index}
use Rattle.std.specs.Int.{bit_at}

-- a bit of a number is set
abbrev pub is_set : ℕ → ℕ → Bool
is_set n k = bit_at n k == 1

-- a bit of words of 64 bits is set
abbrev pub is_set_in : List ℕ → ℕ → Bool
is_set_in words p = is_set (slice_index words (p / 64)) (p % 64)

-- of 32 words: bit k of the summary is set exactly where a bit of word k is
pub record IsSummary (summary : ℕ) (words : List ℕ) : Type 0 where
  pub sized : length words ≡ 32
  pub each : (k : ℕ) → k < 32 → is_set summary k ≡ not (slice_index words k == 0)
