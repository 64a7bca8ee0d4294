-- Words as bytes.
use Rattle.std.specs.Prelude.{ℕ, List, length, slice_index}
use Rattle.far_word.specs.Bytes.{byte_at, packed_word, word_at}
use Rattle.far_events.specs.declared.memory.words.Words.{Words}
use Rattle.far_events.specs.events.Ranges.{with_row}

-- word a; past the last all are 0
unfoldable pub word_in : Words → ℕ → ℕ
word_in words = packed_word words.bytes.items

-- words of which the bytes from one on are others
abbrev pub with_bytes : (ℕ → ℕ) → ℕ → List ℕ → ℕ → ℕ
with_bytes word from bytes = word_at (with_row (byte_at word) from (length bytes) (λ k. slice_index bytes k))
