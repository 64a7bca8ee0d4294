-- Bytes written into words: those that have one of them.
use Rattle.std.specs.Prelude.{ℕ, ◌+◌, ◌-◌, ◌/◌, List, ◌++◌, length, map, take, drop}
use Rattle.std.specs.List.{range_with_len}
use Rattle.far_word.specs.Sizes.{words_for}
use Rattle.far_events.specs.state.Words.{with_bytes}

-- the words that have one of the bytes that are written from one on
abbrev pub written_words : (ℕ → ℕ) → ℕ → List ℕ → List ℕ
written_words word from bytes = map (with_bytes word from bytes) (range_with_len (from / 8) (words_for (from + length bytes) - from / 8))

-- bytes of which those from one on are others
abbrev pub spliced : List ℕ → ℕ → List ℕ → List ℕ
spliced all from bytes = take from all ++ (bytes ++ drop (length bytes) (drop from all))
