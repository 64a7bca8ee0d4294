-- Worked rows of what users know of a heap: a heap of three pointers.
use Rattle.std.proofs.Common.{◌≡◌, refl}
use Rattle.std.specs.Prelude.{true, false, Some, None, List, [], ◌∷◌}
use Rattle.far_word.specs.declared.refused.Refused.TheVariants.{NotHeld, Range}
use Rattle.far_private.specs.Heap.{Heap, access_refusal, bytes_in, is_length, len_in, object, structure_of, with_made, with_new, with_written, without}
use Rattle.far_private.specs.HeapLaws.{Call, Drops, Makes, MakesWith, Reads, Writes, byte_in, last_said, last_shape}

abbrev free : Heap
free = record { honest = true; logs = 4; objects = None ∷ None ∷ None ∷ [] }

abbrev unsure : Heap
unsure = record { honest = false; logs = 4; objects = None ∷ None ∷ None ∷ [] }

abbrev two : Heap
two = with_written 1 1 (5 ∷ 6 ∷ []) (with_made 2 8 (4 ∷ 3 ∷ []) (with_new 1 3 7 free))

-- ---- heaps
zeros : bytes_in (with_new 1 3 7 free) 1 ≡ Some (0 ∷ 0 ∷ 0 ∷ [])
zeros = refl

made : bytes_in two 2 ≡ Some (4 ∷ 3 ∷ [])
made = refl

written : bytes_in two 1 ≡ Some (0 ∷ 5 ∷ 6 ∷ [])
written = refl

long : len_in two 1 ≡ 3
long = refl

structured : structure_of (object two 1) ≡ Some 7
structured = refl

untouched : object two 0 ≡ None
untouched = refl

outside : object two 3 ≡ None
outside = refl

gone : object (without 1 two) 1 ≡ None
gone = refl

beside : bytes_in (without 1 two) 2 ≡ Some (4 ∷ 3 ∷ [])
beside = refl

unknown : bytes_in (with_written 1 1 (5 ∷ 6 ∷ []) (with_new 1 3 7 unsure)) 1 ≡ None
unknown = refl

unknown_long : len_in (with_written 1 1 (5 ∷ 6 ∷ []) (with_new 1 3 7 unsure)) 1 ≡ 3
unknown_long = refl

-- ---- refusals
inside : access_refusal two 1 1 2 ≡ None
inside = refl

past : access_refusal two 1 2 2 ≡ Some Range
past = refl

nothing_asked : access_refusal two 1 0 0 ≡ Some Range
nothing_asked = refl

at_none : access_refusal two 0 0 0 ≡ Some NotHeld
at_none = refl

at_no_pointer : access_refusal two 3 0 1 ≡ Some NotHeld
at_no_pointer = refl

lengths : (is_length 0 ≡ false) × (is_length 1 ≡ true) × (is_length 4088 ≡ true) × (is_length 4089 ≡ false)
lengths = (refl, refl, refl, refl)

-- ---- calls
abbrev calls : List Call
calls = Makes 1 3 7 ∷ MakesWith 2 8 (4 ∷ 3 ∷ []) ∷ Writes 1 1 (5 ∷ 6 ∷ []) ∷ Writes 1 2 (9 ∷ []) ∷ Reads 1 0 (0 ∷ 5 ∷ 9 ∷ []) ∷ []

abbrev again : List Call
again = Makes 1 3 7 ∷ Writes 1 1 (5 ∷ 6 ∷ []) ∷ Drops 1 ∷ Makes 1 2 6 ∷ []

first : last_said calls 1 0 ≡ Some (Some 0)
first = refl

second : last_said calls 1 1 ≡ Some (Some 5)
second = refl

third : last_said calls 1 2 ≡ Some (Some 9)
third = refl

fourth : last_said calls 1 3 ≡ Some None
fourth = refl

other : last_said calls 2 1 ≡ Some (Some 3)
other = refl

of_none : last_said calls 0 0 ≡ None
of_none = refl

anew : last_said again 1 1 ≡ Some (Some 0)
anew = refl

shorter : last_said again 1 2 ≡ Some None
shorter = refl

shape : last_shape again 1 ≡ Some record { len = Some 2; structure = Some 6 }
shape = refl

shapeless : last_shape (Makes 1 3 7 ∷ Drops 1 ∷ []) 1 ≡ Some record { len = None; structure = None }
shapeless = refl

in_two : byte_in two 1 2 ≡ Some 6
in_two = refl
