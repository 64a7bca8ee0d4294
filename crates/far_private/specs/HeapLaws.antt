-- A private heap's calls, one after the other, and what they alone say of its objects.
use Rattle.std.specs.Prelude.{◌≡◌, ℕ, ◌+◌, ◌-◌, ◌<◌, ◌==◌, ◌&&◌, nat_lt, nat_le, Bool, true, false, Option, Some, None, IsSome, IfSome, unwrap_or, List, [], ◌∷◌, ◌++◌, length, slice_get, slice_range, if◌then◌else◌}
use Rattle.std.specs.Option.{option_and_then, option_or}
use Rattle.far_word.specs.declared.sizes.TheConstants.{POINTERS}
use Rattle.far_private.specs.Heap.{Heap, HeapLaw, access_refusal, bytes_in, is_length, object, size_of, structure_of, with_made, with_new, with_written, without}

-- a call, and what it answered: at a pointer an object of so many zeros was made, for a data structure, or one of these bytes; of the object of a pointer these
-- bytes were read, or written, from one on; it was dropped; or a call was refused; or a round was made
pub data Call : Type 0 where
  Makes : ℕ → ℕ → ℕ → Call
  MakesWith : ℕ → ℕ → List ℕ → Call
  Reads : ℕ → ℕ → List ℕ → Call
  Writes : ℕ → ℕ → List ℕ → Call
  Drops : ℕ → Call
  Refuses : Call
  Rounds : Call

-- what its contract says of the heap before and after
abbrev pub Calls : Call → Heap → Heap → Type 0
Calls (Makes p len ds) h k = (is_length len ≡ true) × (p < POINTERS) × (object h p ≡ None) × (k ≡ with_new p len ds h)
Calls (MakesWith p ds bytes) h k = (is_length (length bytes) ≡ true) × (p < POINTERS) × (object h p ≡ None) × (k ≡ with_made p ds bytes h)
Calls (Reads p from out) h k = (access_refusal h p from (length out) ≡ None) × IfSome (bytes_in h p) (λ bytes. out ≡ slice_range bytes from (from + length out)) × (k ≡ h)
Calls (Writes p from bytes) h k = (access_refusal h p from (length bytes) ≡ None) × (k ≡ with_written p from bytes h)
Calls (Drops p) h k = IsSome (object h p) × (k ≡ without p h)
Calls Refuses h k = k ≡ h
Calls Rounds h k = k ≡ h

abbrev pub Called : Heap → List Call → Heap → Type 0
Called h [] k = k ≡ h
Called h (c ∷ cs) k = (next : Heap) × Calls c h next × Called next cs k

-- ---- bytes
-- byte i of a pointer's object, if it has one, and it is known
abbrev pub byte_in : Heap → ℕ → ℕ → Option ℕ
byte_in h p i = option_and_then (λ bytes. slice_get bytes i) (bytes_in h p)

-- what a call says of byte i of pointer p: nothing; or that there is none from then on; or which it is
abbrev pub says : Call → ℕ → ℕ → Option (Option ℕ)
says (Makes q len ds) p i = if q == p then Some (if nat_lt i len then Some 0 else None) else None
says (MakesWith q ds bytes) p i = if q == p then Some (slice_get bytes i) else None
says (Reads q from out) p i = None
says (Writes q from bytes) p i = if (q == p) && nat_le from i && nat_lt i (from + length bytes) then Some (slice_get bytes (i - from)) else None
says (Drops q) p i = if q == p then Some None else None
says Refuses p i = None
says Rounds p i = None

-- what was said of it last
abbrev pub last_said : List Call → ℕ → ℕ → Option (Option ℕ)
last_said [] p i = None
last_said (c ∷ cs) p i = option_or (last_said cs p i) (says c p i)

-- over an honest far side each byte of each object is what was said of it last, or what it was, where nothing was said
abbrev pub LastWritten : Type 0
LastWritten = (calls : List Call) (h k : Heap) → HeapLaw h → h.honest ≡ true → Called h calls k → (p i : ℕ) → byte_in k p i ≡ unwrap_or (last_said calls p i) (byte_in h p i)

-- so is each byte that was read
abbrev pub ReadsLastWritten : Type 0
ReadsLastWritten = (before later : List Call) (p from : ℕ) (out : List ℕ) (h k : Heap) → HeapLaw h → h.honest ≡ true → Called h (before ++ Reads p from out ∷ later) k →
    (i : ℕ) → i < length out → slice_get out i ≡ unwrap_or (last_said before p (from + i)) (byte_in h p (from + i))

-- and in a heap that had no object each byte that was read had been said
abbrev pub ReadsWereSaid : Type 0
ReadsWereSaid = (before later : List Call) (p from : ℕ) (out : List ℕ) (h k : Heap) → HeapLaw h → h.honest ≡ true → ((q : ℕ) → object h q ≡ None) →
    Called h (before ++ Reads p from out ∷ later) k → (i : ℕ) → i < length out → last_said before p (from + i) ≡ Some (slice_get out i)

-- ---- which pointers have an object, how long it is and of which data structure: over any far side
pub record Shape : Type 0 where
  pub len : Option ℕ
  pub structure : Option ℕ

abbrev pub shape_in : Heap → ℕ → Shape
shape_in h p = record { len = size_of (object h p); structure = structure_of (object h p) }

-- what a call says of it
abbrev pub shapes : Call → ℕ → Option Shape
shapes (Makes q len ds) p = if q == p then Some record { len = Some len; structure = Some ds } else None
shapes (MakesWith q ds bytes) p = if q == p then Some record { len = Some (length bytes); structure = Some ds } else None
shapes (Reads q from out) p = None
shapes (Writes q from bytes) p = None
shapes (Drops q) p = if q == p then Some record { len = None; structure = None } else None
shapes Refuses p = None
shapes Rounds p = None

abbrev pub last_shape : List Call → ℕ → Option Shape
last_shape [] p = None
last_shape (c ∷ cs) p = option_or (last_shape cs p) (shapes c p)

abbrev pub LastMade : Type 0
LastMade = (calls : List Call) (h k : Heap) → HeapLaw h → Called h calls k → (p : ℕ) → shape_in k p ≡ unwrap_or (last_shape calls p) (shape_in h p)

-- ---- objects apart
abbrev pub is_made_by : Call → ℕ → Bool
is_made_by (Makes q len ds) p = q == p
is_made_by (MakesWith q ds bytes) p = q == p
is_made_by _ p = false

-- a pointer whose object was dropped has none until one is made there
abbrev pub AreMadeElsewhere : List Call → ℕ → Type 0
AreMadeElsewhere [] p = Unit {0}
AreMadeElsewhere (c ∷ cs) p = (is_made_by c p ≡ false) × AreMadeElsewhere cs p

abbrev pub DroppedIsGone : Type 0
DroppedIsGone = (before later : List Call) (p : ℕ) (h k : Heap) → HeapLaw h → Called h (before ++ Drops p ∷ later) k → AreMadeElsewhere later p → object k p ≡ None

abbrev pub touches : Call → ℕ → Bool
touches (Makes q len ds) p = q == p
touches (MakesWith q ds bytes) p = q == p
touches (Reads q from out) p = false
touches (Writes q from bytes) p = q == p
touches (Drops q) p = q == p
touches Refuses p = false
touches Rounds p = false

-- an object that no call names but to read is as it was, whatever others do
abbrev pub AreElsewhere : List Call → ℕ → Type 0
AreElsewhere [] p = Unit {0}
AreElsewhere (c ∷ cs) p = (touches c p ≡ false) × AreElsewhere cs p

abbrev pub ObjectsApart : Type 0
ObjectsApart = (calls : List Call) (p : ℕ) (h k : Heap) → Called h calls k → AreElsewhere calls p → object k p ≡ object h p
