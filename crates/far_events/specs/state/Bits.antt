-- Rows of bits.
use Rattle.std.specs.Prelude.{ℕ, ◌/◌, ◌%◌, ◌==◌, Bool, List, slice_index}
use Rattle.std.specs.Int.{bit_at}
use Rattle.far_events.specs.declared.memory.bits.Bits.{Bits}

-- bit b of words of 64 bits; past the last word none is set
abbrev pub word_bit : List ℕ → ℕ → Bool
word_bit words b = bit_at (slice_index words (b / 64)) (b % 64) == 1

unfoldable pub bit_in : Bits → ℕ → Bool
bit_in bits = word_bit bits.words.items
