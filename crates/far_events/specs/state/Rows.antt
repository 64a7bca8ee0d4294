-- Rows of words, which pointers get one after the other.
use Rattle.std.specs.Prelude.{◌≡◌, ◌≢◌, ℕ, ◌+◌, ◌*◌, ◌<◌, ◌≤◌, cond, nat_lt, List, slice_index, slice_index_or}
use Rattle.far_word.specs.declared.sizes.TheConstants.{LOG_WORDS}
use Rattle.far_events.specs.declared.memory.stored_rows.Row.{Row}

-- the row of a pointer that never went far
abbrev pub no_row : Row
no_row = record { start = 0; room = 0 }

-- a pointer's row, and for how many words it has room
abbrev pub row_at : List Row → ℕ → Row
row_at row_of p = slice_index_or row_of p no_row

abbrev pub room_in : Row → ℕ
room_in row = row.room

-- word i of a row; past its end all words are 0
abbrev pub row_word : List ℕ → Row → ℕ → ℕ
row_word words row i = cond (nat_lt i row.room) (slice_index words (row.start + i)) 0

-- the first n words are those of f, all others those of g
abbrev pub with_first : ℕ → (ℕ → ℕ) → (ℕ → ℕ) → ℕ → ℕ
with_first n f g i = cond (nat_lt i n) (f i) (g i)

-- at most half of a log's words, or all
abbrev pub HalfOrAll : ℕ → Type 0
HalfOrAll room = LOG_WORDS < 2 * room → room ≡ LOG_WORDS

abbrev pub RowsSized : List Row → Type 0
RowsSized row_of = (p : ℕ) → HalfOrAll (row_at row_of p).room

-- the rows of all pointers end within so many words
abbrev pub RowsFit : ℕ → List Row → Type 0
RowsFit end row_of = (p : ℕ) → (row_at row_of p).start + (row_at row_of p).room ≤ end

-- no two pointers have a word in common: what begins before a row's end ends before its beginning
abbrev pub AreApart : Row → Row → Type 0
AreApart x y = y.start < x.start + x.room → y.start + y.room ≤ x.start

abbrev pub RowsAreApart : List Row → Type 0
RowsAreApart row_of = (p q : ℕ) → p ≢ q → AreApart (row_at row_of p) (row_at row_of q)
