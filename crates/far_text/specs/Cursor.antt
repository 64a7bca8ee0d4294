-- How far a text is read: what the words and the lines are that are left of it.
use Rattle.std.specs.Prelude.{ℕ, Bool, ◌||◌, ◌==◌, List, [], ◌∷◌, Option, Some, None}
use Rattle.std.specs.Borrow.{Bor}
use Rattle.far_text.specs.Grammar.{line_words, lines_of}
use Rattle.far_text.specs.declared.cursor.Rest.{Rest}
use Rattle.far_text.specs.declared.cursor.Rest.TheVariants.{Words, Lines}

-- a space or a newline ends a word
abbrev pub is_end : ℕ → Bool
is_end b = (b == 32) || (b == 10)

abbrev pub front_of : List (List ℕ) → List ℕ
front_of [] = []
front_of (part ∷ parts) = part

abbrev pub rest_of : List (List ℕ) → List (List ℕ)
rest_of [] = []
rest_of (part ∷ parts) = parts

abbrev pub first_line : List ℕ → List ℕ
first_line text = front_of (lines_of text)

-- the lines after the first
abbrev pub lines_after_first : List ℕ → List (List ℕ)
lines_after_first text = rest_of (lines_of text)

-- the words of the first line
abbrev pub words_in : List ℕ → List (List ℕ)
words_in text = line_words (first_line text)

-- the lines that are left
abbrev pub lines_left : Option (Bor (List ℕ)) → List (List ℕ)
lines_left None = []
lines_left (Some text) = lines_of text.now

-- the words that are left of the line
abbrev pub words_left : Rest → List (List ℕ)
words_left (Words text) = words_in text.now
words_left (Lines lines) = []

-- the lines after it
abbrev pub lines_after : Rest → List (List ℕ)
lines_after (Words text) = lines_after_first text.now
lines_after (Lines lines) = lines_left lines
