-- The pointer word: its layout, the one word of a pointer, and what a word says.
use Rattle.std.specs.Prelude.{◌≡◌, ℕ, ◌+◌, ◌*◌, ◌^◌, ◌<◌, ◌≤◌, Bool, true, false, ◌&&◌, ◌||◌, ◌==◌, nat_lt, nat_le, Option, Some, None, not, if◌then◌else◌}
use Rattle.far_word.specs.declared.mark.Mark.{Mark}
use Rattle.far_word.specs.declared.mark.Mark.TheVariants.{Hot, Evac, Moved, Dropped, Dirty}
use Rattle.far_word.specs.declared.pointer.Place.{Place}
use Rattle.far_word.specs.declared.pointer.PtrWord.{PtrWord}
use Rattle.far_word.specs.declared.pointer.PtrWord.TheVariants.{Free, Near, Far}
use Rattle.far_word.specs.declared.sizes.TheConstants.{LONGEST, LOG_WORDS, MOST_LOGS}
use Rattle.far_word.specs.Mark.{bit_of, field, is_set, marks_number, marks_of, marks_with}
use Rattle.far_word.specs.Sizes.{size_of}

-- a pointer that lies on the layout
abbrev pub IsPtr : PtrWord → Type 0
IsPtr Free = Unit {0}
IsPtr (Near len ds place marks) = (0 < len) × (len ≤ LONGEST) × (ds < 256) × (place.log < MOST_LOGS) × (place.at + size_of len ≤ LOG_WORDS)
IsPtr (Far len ds marks) = (0 < len) × (len ≤ LONGEST) × (ds < 256) × (marks.evac ≡ false) × (marks.dirty ≡ false)

-- the one word of a pointer: length, data structure, offset, log, USED, the marks, PRESENT
abbrev pub word_of : PtrWord → ℕ
word_of Free = 0
word_of (Near len ds place marks) = len + ds * 2 ^ 16 + place.at * 2 ^ 24 + place.log * 2 ^ 34 + bit_of marks.dirty * 2 ^ 57 + 2 ^ 58 + marks_number marks * 2 ^ 59 + 2 ^ 63
word_of (Far len ds marks) = len + ds * 2 ^ 16 + 2 ^ 58 + marks_number marks * 2 ^ 59

-- the tests by which a word is read, in their order
abbrev pub names_object : ℕ → Bool
names_object w = is_set w 58 && (field w 42 15 == 0) && nat_lt 0 (field w 0 16) && nat_le (field w 0 16) LONGEST

abbrev pub near_fits : ℕ → Bool
near_fits w = nat_lt (field w 34 8) MOST_LOGS && nat_le (field w 24 10 + size_of (field w 0 16)) LOG_WORDS

abbrev pub near_of : ℕ → Option PtrWord
near_of w = if near_fits w then Some (Near (field w 0 16) (field w 16 8) record { log = field w 34 8; at = field w 24 10 } (marks_of w)) else None

abbrev pub far_fits : ℕ → Bool
far_fits w = (field w 34 8 == 0) && (field w 24 10 == 0) && not (is_set w 61) && not (is_set w 57)

abbrev pub far_of : ℕ → Option PtrWord
far_of w = if far_fits w then Some (Far (field w 0 16) (field w 16 8) (marks_of w)) else None

-- what a word says; None off the layout
unfoldable pub read_of : ℕ → Option PtrWord
read_of w = if w == 0 then Some Free else (if names_object w then (if is_set w 63 then near_of w else far_of w) else None)

-- whether a pointer may take a mark: a free cell takes none, a far one neither EVAC nor DIRTY
abbrev pub takes_mark : Mark → PtrWord → Bool
takes_mark k Free = false
takes_mark k (Near len ds place marks) = true
takes_mark Evac (Far len ds marks) = false
takes_mark Dirty (Far len ds marks) = false
takes_mark Hot (Far len ds marks) = true
takes_mark Moved (Far len ds marks) = true
takes_mark Dropped (Far len ds marks) = true

-- the pointer with one mark set, all else as it was
abbrev pub with_mark : Mark → PtrWord → PtrWord
with_mark k Free = Free
with_mark k (Near len ds place marks) = Near len ds place (marks_with k marks)
with_mark k (Far len ds marks) = Far len ds (marks_with k marks)

-- the pointer without EVAC, all else as it was
abbrev pub without_evac : PtrWord → PtrWord
without_evac Free = Free
without_evac (Near len ds place marks) = Near len ds place record { hot = marks.hot; evac = false; moved = marks.moved; dropped = marks.dropped; dirty = marks.dirty }
without_evac (Far len ds marks) = Far len ds marks

-- the pointer without the marks that an owner may add at any moment: HOT, MOVE and DROP
abbrev pub without_owner_marks : PtrWord → PtrWord
without_owner_marks Free = Free
without_owner_marks (Near len ds place marks) = Near len ds place record { hot = false; evac = marks.evac; moved = false; dropped = false; dirty = marks.dirty }
without_owner_marks (Far len ds marks) = Far len ds record { hot = false; evac = marks.evac; moved = false; dropped = false; dirty = marks.dirty }

-- where a new view may rest: the place of a near pointer with none of EVAC, MOVE and DROP
abbrev pub view_place : PtrWord → Option Place
view_place Free = None
view_place (Near len ds place marks) = if marks.evac || marks.moved || marks.dropped then None else Some place
view_place (Far len ds marks) = None

-- the length of the object that a pointer names, near or far; a free cell names none
abbrev pub pointer_len : PtrWord → ℕ
pointer_len Free = 0
pointer_len (Near len ds place marks) = len
pointer_len (Far len ds marks) = len
