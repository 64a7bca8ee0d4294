-- The lines of a text.
use Rattle.std.specs.Prelude.{ℕ, ◌==◌, ◌+◌, ⊤, ◌≡◌, false, List, [], ◌∷◌, ◌++◌, if◌then◌else◌}
use Rattle.std.specs.declared.hash.DefaultHasher.{DefaultHasher}
use Rattle.far_seen.specs.Lines.{stamp_of}

abbrev pub onto_first : ℕ → List (List ℕ) → List (List ℕ)
onto_first x [] = (x ∷ []) ∷ []
onto_first x (l ∷ ls) = (x ∷ l) ∷ ls

-- the byte `end` ends a line; what follows the last one is a line too, if it has bytes
abbrev pub lines_of : ℕ → List ℕ → List (List ℕ)
lines_of end [] = []
lines_of end (x ∷ xs) = if x == end then [] ∷ lines_of end xs else onto_first x (lines_of end xs)

-- each line, and its end
abbrev pub text_of : ℕ → List (List ℕ) → List ℕ
text_of end [] = []
text_of end (l ∷ ls) = (l ++ end ∷ []) ++ text_of end ls

-- the text, and an end after its last line if that has none
abbrev pub closed : ℕ → List ℕ → List ℕ
closed end [] = []
closed end (x ∷ []) = if x == end then x ∷ [] else x ∷ end ∷ []
closed end (x ∷ y ∷ ys) = x ∷ closed end (y ∷ ys)

-- how many of the bytes end a line
abbrev pub ends_in : ℕ → List ℕ → ℕ
ends_in end [] = 0
ends_in end (x ∷ xs) = if x == end then ends_in end xs + 1 else ends_in end xs

-- a line, or what stands for the empty one
abbrev pub key_in : List ℕ → List ℕ → List ℕ
key_in none [] = none
key_in none (x ∷ xs) = x ∷ xs

-- the object that stands for a line: the line, or its end for the empty one, since no object is empty
abbrev pub key_of : ℕ → List ℕ → List ℕ
key_of end line = key_in (end ∷ []) line

-- the stamp of a line: of what stands for it the hash of 48 bits, begun with a seed, and the length
abbrev pub stamp_by : DefaultHasher → ℕ → List ℕ → List ℕ
stamp_by seed end line = stamp_of seed (key_of end line)

-- no byte ends a line
abbrev pub IsPlain : ℕ → List ℕ → Type 0
IsPlain end [] = ⊤
IsPlain end (x ∷ xs) = ((x == end) ≡ false) × IsPlain end xs

abbrev pub ArePlain : ℕ → List (List ℕ) → Type 0
ArePlain end [] = ⊤
ArePlain end (l ∷ ls) = IsPlain end l × ArePlain end ls
