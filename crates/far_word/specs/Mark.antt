-- The five marks of a pointer word, and where each stands.
use Rattle.std.specs.Prelude.{ℕ, ◌+◌, ◌*◌, ◌/◌, ◌%◌, ◌^◌, Bool, true, cond, ◌==◌}
use Rattle.far_word.specs.declared.mark.Mark.{Mark}
use Rattle.far_word.specs.declared.mark.Mark.TheVariants.{Hot, Evac, Moved, Dropped, Dirty}
use Rattle.far_word.specs.declared.mark.Marks.{Marks}

-- the bits of a word from low on, as many as said, as a number
abbrev pub field : ℕ → ℕ → ℕ → ℕ
field word low bits = word / 2 ^ low % 2 ^ bits

-- whether one bit of a word is set
abbrev pub is_set : ℕ → ℕ → Bool
is_set word bit = (word / 2 ^ bit % 2) == 1

-- a truth value as a bit
abbrev pub bit_of : Bool → ℕ
bit_of b = cond b 1 0

-- where a mark stands in a word
abbrev pub position : Mark → ℕ
position Dirty = 57
position Dropped = 59
position Moved = 60
position Evac = 61
position Hot = 62

-- the marks but DIRTY as a number of four bits, DROP lowest
abbrev pub marks_number : Marks → ℕ
marks_number m = bit_of m.dropped + bit_of m.moved * 2 + bit_of m.evac * 4 + bit_of m.hot * 8

-- the marks of a word
abbrev pub marks_of : ℕ → Marks
marks_of word = record { hot = is_set word 62; evac = is_set word 61; moved = is_set word 60; dropped = is_set word 59; dirty = is_set word 57 }

-- marks with one more set
abbrev pub marks_with : Mark → Marks → Marks
marks_with Hot m = record { hot = true; evac = m.evac; moved = m.moved; dropped = m.dropped; dirty = m.dirty }
marks_with Evac m = record { hot = m.hot; evac = true; moved = m.moved; dropped = m.dropped; dirty = m.dirty }
marks_with Moved m = record { hot = m.hot; evac = m.evac; moved = true; dropped = m.dropped; dirty = m.dirty }
marks_with Dropped m = record { hot = m.hot; evac = m.evac; moved = m.moved; dropped = true; dirty = m.dirty }
marks_with Dirty m = record { hot = m.hot; evac = m.evac; moved = m.moved; dropped = m.dropped; dirty = true }
