-- Bytes in words: eight to a word, little end first, and zeros after the last byte.
use Rattle.std.specs.Prelude.{ℕ, ◌+◌, ◌*◌, ◌/◌, ◌%◌, ◌^◌, ◌==◌, cond, List, map, length, slice_index}
use Rattle.std.specs.List.{range_with_len}
use Rattle.far_word.specs.Sizes.{words_for}

-- byte k of a row of words
abbrev pub byte_at : (ℕ → ℕ) → ℕ → ℕ
byte_at word k = word (k / 8) / 2 ^ (8 * (k % 8)) % 256

-- the first n bytes of a row of words
unfoldable pub bytes_of : (ℕ → ℕ) → ℕ → List ℕ
bytes_of word n = map (byte_at word) (range_with_len 0 n)

-- the word of the eight bytes from 8i on
abbrev pub word_at : (ℕ → ℕ) → ℕ → ℕ
word_at byte i = byte (8 * i) + byte (8 * i + 1) * 2 ^ 8 + byte (8 * i + 2) * 2 ^ 16 + byte (8 * i + 3) * 2 ^ 24
    + byte (8 * i + 4) * 2 ^ 32 + byte (8 * i + 5) * 2 ^ 40 + byte (8 * i + 6) * 2 ^ 48 + byte (8 * i + 7) * 2 ^ 56

-- word i of some bytes, zeros past their end
abbrev pub packed_word : List ℕ → ℕ → ℕ
packed_word bytes i = word_at (λ k. slice_index bytes k) i

-- the words of some bytes
unfoldable pub words_of : List ℕ → List ℕ
words_of bytes = map (packed_word bytes) (range_with_len 0 (words_for (length bytes)))

-- the bytes with the eight of word i written over, as many as there are
unfoldable pub with_word : List ℕ → ℕ → ℕ → List ℕ
with_word bytes i w = map (λ k. cond (k / 8 == i) (w / 2 ^ (8 * (k % 8)) % 256) (slice_index bytes k)) (range_with_len 0 (length bytes))
