-- How large the things of a heap are: what an object takes in its log, in words of eight bytes.
use Rattle.std.specs.Prelude.{ℕ, ◌+◌, ◌*◌, ◌/◌}

-- the words that hold this many bytes
abbrev pub words_for : ℕ → ℕ
words_for n = (n + 7) / 8

-- the words that an object of this many data bytes takes, its header included
abbrev pub size_of : ℕ → ℕ
size_of len = 1 + words_for len

-- the same in bytes
abbrev pub bytes_taken : ℕ → ℕ
bytes_taken len = 8 * size_of len
