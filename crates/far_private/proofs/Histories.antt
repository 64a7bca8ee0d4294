-- What a heap's calls say of its objects.
use Rattle.std.proofs.Common.{◌≡◌, ℕ, ◌+◌, ◌-◌, ◌<◌, ◌≤◌, ◌==◌, Bool, true, false, Option, Some, None, List, [], ◌∷◌, ◌++◌, length, get_or, replicate, take, drop, refl, sym, ap, subst, ◌∙◌, inl, inr, arith}
use Rattle.std.specs.Prelude.{◌&&◌, nat_lt, nat_le, is_some, IfSome, unwrap_or, slice_get, slice_range, if◌then◌else◌}
use Rattle.std.specs.Option.{option_and_then, option_map, option_or}
use Rattle.std.proofs.lemmas.Bool.{cases_eq, cases_lt, eq-eqb, eqb-false, false≢true, ne_eqb}
use Rattle.std.proofs.lemmas.Bool.Decides.{nat_tests}
use Rattle.std.proofs.lemmas.List.{get_or-drop, get_or-replicate, get_or-set_other, get_or-set_same, get_or-take, get_or_past, length-drop, length-replicate, length-set, length-take-le}
use Rattle.std.proofs.lemmas.Option.{slice_get-get_or, slice_get_past}
use Rattle.far_word.specs.declared.refused.Refused.TheVariants.{NotHeld, Range}
use Rattle.far_word.specs.declared.sizes.TheConstants.{POINTERS}
use Rattle.far_alone.specs.Objects.{with_range}
use Rattle.far_alone.proofs.Spliced.{length-with_range, with_range_after, with_range_before, with_range_inside}
use Rattle.far_private.specs.Objects.{Object, bytes_of, known, len_of, rewritten}
use Rattle.far_private.specs.Heap.{Heap, HeapLaw, IsWell, access_refusal, len_in, object, object_with, size_of, structure_of, with_object}
use Rattle.far_private.specs.HeapLaws.{AreMadeElsewhere, Call, Called, Calls, DroppedIsGone, Drops, LastMade, LastWritten, Makes, MakesWith, ObjectsApart, Reads, ReadsLastWritten, ReadsWereSaid, Refuses, Rounds, Shape, Writes, byte_in, is_made_by, last_said, last_shape, says, shape_in, shapes, touches}

-- ---- one pointer's object is another
put_here : (h : Heap) (q : ℕ) (x : Option Object) (p : ℕ) → q < length h.objects → object (with_object q x h) p ≡ (if q == p then x else object h p)
put_here h q x p lt = elim (cases_eq q p) [
  | inl e ↦ ap (λ n. object (with_object q x h) n) (sym e) ∙ get_or-set_same h.objects q x None lt ∙ sym (ap (λ b. if b then x else object h p) (eq-eqb q p e))
  | inr ne ↦ get_or-set_other h.objects q p x None (λ e. ne (sym e)) ∙ sym (ap (λ b. if b then x else object h p) (ne_eqb q p ne))
]

put_beside : (h : Heap) (q : ℕ) (x : Option Object) (p : ℕ) → (q == p) ≡ false → object (with_object q x h) p ≡ object h p
put_beside h q x p ne = get_or-set_other h.objects q p x None (λ e. eqb-false q p ne (sym e))

put_changed : (h : Heap) (q : ℕ) (f : Option Object → Option Object) (p : ℕ) → q < length h.objects → object (with_object q (f (object h q)) h) p ≡ (if q == p then f (object h p) else object h p)
put_changed h q f p lt = elim (cases_eq q p) [
  | inl e ↦ put_here h q (f (object h q)) p lt ∙ ap (λ n. if q == p then f (object h n) else object h p) e
  | inr ne ↦ put_here h q (f (object h q)) p lt ∙ ap (λ b. if b then f (object h q) else object h p) (ne_eqb q p ne) ∙ sym (ap (λ b. if b then f (object h p) else object h p) (ne_eqb q p ne))
]

some_not_none : (o : Option Object) → is_some o ≡ true → o ≡ None → ⊥
some_not_none None e f = absurd (false≢true e)
some_not_none (Some x) e f = absurd (false≢true (sym (ap is_some f)))

within : (h : Heap) (q : ℕ) → is_some (object h q) ≡ true → q < length h.objects
within h q e = elim (cases_lt q (length h.objects)) [
  | inl lt ↦ lt
  | inr le ↦ absurd (some_not_none (object h q) e (get_or_past h.objects q None le))
]

-- an access that isn't refused is one of an object, and inside it
allowed : (a b : Bool) → (if a then (if b then None else Some Range) else Some NotHeld) ≡ None → (a ≡ true) × (b ≡ true)
allowed true true e = (refl, refl)
allowed true false e = absurd cc
allowed false b e = absurd cc

record Reaches (h : Heap) (p from count : ℕ) : Type 0 where
  there : is_some (object h p) ≡ true
  inside : from + count ≤ len_in h p

reaches : (h : Heap) (p from count : ℕ) → access_refusal h p from count ≡ None → Reaches h p from count
reaches h p from count e =
    let a = allowed (is_some (object h p)) (nat_lt 0 count && nat_le (from + count) (len_in h p)) e in
    let t : (nat_lt 0 count && nat_le (from + count) (len_in h p)) ≡ true = a.1 in
    record { there = a.0; inside = grind (arith, nat_tests) }

-- ---- what a call makes of one object
changed : Call → Bool → ℕ → Option Object → Option Object
changed (Makes q len ds) b p o = if q == p then Some record { len = len; ds = ds; bytes = known b (replicate len 0) } else o
changed (MakesWith q ds bytes) b p o = if q == p then Some (object_with b ds bytes) else o
changed (Reads q from out) b p o = o
changed (Writes q from bytes) b p o = if q == p then option_map (rewritten from bytes) o else o
changed (Drops q) b p o = if q == p then None else o
changed Refuses b p o = o
changed Rounds b p o = o

changes : (c : Call) (h k : Heap) → length h.objects ≡ POINTERS → Calls c h k → (p : ℕ) → object k p ≡ changed c h.honest p (object h p)
unfolding changed
changes (Makes q len ds) h k many did p = ap (λ (x : Heap). object x p) did.3 ∙ put_here h q (Some record { len = len; ds = ds; bytes = known h.honest (replicate len 0) }) p (subst (λ n. q < n) (sym many) did.1)
changes (MakesWith q ds bytes) h k many did p = ap (λ (x : Heap). object x p) did.3 ∙ put_here h q (Some (object_with h.honest ds bytes)) p (subst (λ n. q < n) (sym many) did.1)
changes (Reads q from out) h k many did p = ap (λ (x : Heap). object x p) did.2
changes (Writes q from bytes) h k many did p = ap (λ (x : Heap). object x p) did.1 ∙ put_changed h q (option_map (rewritten from bytes)) p (within h q (reaches h q from (length bytes) did.0).there)
changes (Drops q) h k many did p = ap (λ (x : Heap). object x p) did.1 ∙ put_here h q None p (within h q did.0)
changes Refuses h k many did p = ap (λ (x : Heap). object x p) did
changes Rounds h k many did p = ap (λ (x : Heap). object x p) did

record Stays (h k : Heap) : Type 0 where
  many : length k.objects ≡ length h.objects
  honest : k.honest ≡ h.honest

put_stays : (h k : Heap) (q : ℕ) (x : Option Object) → k ≡ with_object q x h → Stays h k
put_stays h k q x e = record { many = ap (λ (y : Heap). length y.objects) e ∙ length-set h.objects q x; honest = ap (λ (y : Heap). y.honest) e }

same_stays : (h k : Heap) → k ≡ h → Stays h k
same_stays h k e = record { many = ap (λ (y : Heap). length y.objects) e; honest = ap (λ (y : Heap). y.honest) e }

stays : (c : Call) (h k : Heap) → Calls c h k → Stays h k
stays (Makes q len ds) h k did = put_stays h k q (Some record { len = len; ds = ds; bytes = known h.honest (replicate len 0) }) did.3
stays (MakesWith q ds bytes) h k did = put_stays h k q (Some (object_with h.honest ds bytes)) did.3
stays (Reads q from out) h k did = same_stays h k did.2
stays (Writes q from bytes) h k did = put_stays h k q (option_map (rewritten from bytes) (object h q)) did.1
stays (Drops q) h k did = put_stays h k q None did.1
stays Refuses h k did = same_stays h k did
stays Rounds h k did = same_stays h k did

-- ---- bytes
abbrev IsKnown : Option Object → Type 0
IsKnown None = Unit {0}
IsKnown (Some x) = (bytes : List ℕ) × (x.bytes ≡ Some bytes) × (length bytes ≡ x.len)

record Well (h : Heap) : Type 0 where
  many : length h.objects ≡ POINTERS
  honest : h.honest ≡ true
  all : (p : ℕ) → IsKnown (object h p)

known_by : (b : Bool) (o : Option Object) → b ≡ true → IsWell b o → IsKnown o
known_by b None e w = tt
known_by true (Some x) e w = (w.known.0, w.known.1, w.known.2.many)
known_by false (Some x) e w = absurd (false≢true e)

well_by : (h : Heap) → HeapLaw h → h.honest ≡ true → Well h
well_by h law honest = record { many = law.many; honest = honest; all = λ p. known_by h.honest (object h p) honest (law.well p) }

-- where a call writes it is inside
abbrev Fits : Call → ℕ → Option Object → Type 0
Fits (Writes q from bytes) p o = (q == p) ≡ true → (is_some o ≡ true) × (from + length bytes ≤ len_of o)
Fits _ p o = Unit {0}

fits : (c : Call) (h k : Heap) → Calls c h k → (p : ℕ) → Fits c p (object h p)
fits (Writes q from bytes) h k did p = λ e.
    let r = reaches h q from (length bytes) did.0 in
    let same : q ≡ p = grind (arith, nat_tests) in
    (subst (λ n. is_some (object h n) ≡ true) same r.there, subst (λ n. from + length bytes ≤ len_in h n) same r.inside)
fits (Makes q len ds) h k did p = tt
fits (MakesWith q ds bytes) h k did p = tt
fits (Reads q from out) h k did p = tt
fits (Drops q) h k did p = tt
fits Refuses h k did p = tt
fits Rounds h k did p = tt

made_known : (t b : Bool) (len ds : ℕ) (bytes : List ℕ) (o : Option Object) → b ≡ true → length bytes ≡ len → IsKnown o → IsKnown (if t then Some record { len = len; ds = ds; bytes = known b bytes } else o)
made_known false b len ds bytes o e long w = w
made_known true true len ds bytes o e long w = (bytes, refl, long)
made_known true false len ds bytes o e long w = absurd (false≢true e)

written_known : (t : Bool) (from : ℕ) (bytes : List ℕ) (o : Option Object) → (t ≡ true → (is_some o ≡ true) × (from + length bytes ≤ len_of o)) → IsKnown o → IsKnown (if t then option_map (rewritten from bytes) o else o)
written_known false from bytes o fit w = w
written_known true from bytes None fit w = tt
written_known true from bytes (Some x) fit w = (with_range w.0 from bytes, ap (option_map (λ b. with_range b from bytes)) w.1, length-with_range w.0 from bytes (omega (arith, w.2, (fit refl).1)) ∙ w.2)

dropped_known : (t : Bool) (o : Option Object) → IsKnown o → IsKnown (if t then None else o)
dropped_known false o w = w
dropped_known true o w = tt

changed_known : (c : Call) (b : Bool) (p : ℕ) (o : Option Object) → b ≡ true → Fits c p o → IsKnown o → IsKnown (changed c b p o)
unfolding changed
changed_known (Makes q len ds) b p o e fit w = made_known (q == p) b len ds (replicate len 0) o e (length-replicate len 0) w
changed_known (MakesWith q ds bytes) b p o e fit w = made_known (q == p) b (length bytes) ds bytes o e refl w
changed_known (Reads q from out) b p o e fit w = w
changed_known (Writes q from bytes) b p o e fit w = written_known (q == p) from bytes o fit w
changed_known (Drops q) b p o e fit w = dropped_known (q == p) o w
changed_known Refuses b p o e fit w = w
changed_known Rounds b p o e fit w = w

stays_well : (c : Call) (h k : Heap) → Calls c h k → Well h → Well k
stays_well c h k did well = record {
  many = (stays c h k did).many ∙ well.many;
  honest = (stays c h k did).honest ∙ well.honest;
  all = λ p. subst IsKnown (sym (changes c h k well.many did p)) (changed_known c h.honest p (object h p) well.honest (fits c h k did p) (well.all p));
}

-- one byte of one object
abbrev byte_of : Option Object → ℕ → Option ℕ
byte_of o i = option_and_then (λ bytes. slice_get bytes i) (bytes_of o)

abbrev zeros : ℕ → List ℕ
zeros len = replicate len 0

zero_at : (len i : ℕ) → slice_get (zeros len) i ≡ (if nat_lt i len then Some 0 else None)
zero_at len i = elim (cases_lt i len) [
  | inl lt ↦ (let t : nat_lt i len ≡ true = grind (arith, nat_tests) in
      slice_get-get_or (zeros len) i 0 (omega (arith, length-replicate {A = ℕ} len 0)) ∙ ap Some (get_or-replicate len i 0 0 lt) ∙ sym (ap (λ b. if b then Some 0 else None) t))
  | inr le ↦ (let f : nat_lt i len ≡ false = grind (arith, nat_tests) in
      slice_get_past (zeros len) i (omega (arith, length-replicate {A = ℕ} len 0)) ∙ sym (ap (λ b. if b then Some 0 else None) f))
]

zeros_said : (t b : Bool) (len ds i : ℕ) (o : Option Object) → b ≡ true →
    byte_of (if t then Some record { len = len; ds = ds; bytes = known b (replicate len 0) } else o) i ≡ unwrap_or (if t then Some (if nat_lt i len then Some 0 else None) else None) (byte_of o i)
zeros_said false b len ds i o e = refl
zeros_said true true len ds i o e = zero_at len i
zeros_said true false len ds i o e = absurd (false≢true e)

bytes_said : (t b : Bool) (ds i : ℕ) (bytes : List ℕ) (o : Option Object) → b ≡ true →
    byte_of (if t then Some (object_with b ds bytes) else o) i ≡ unwrap_or (if t then Some (slice_get bytes i) else None) (byte_of o i)
bytes_said false b ds i bytes o e = refl
bytes_said true true ds i bytes o e = refl
bytes_said true false ds i bytes o e = absurd (false≢true e)

-- bytes with others in their place, byte by byte
range_said : (whole : List ℕ) (from : ℕ) (new : List ℕ) (i : ℕ) → from + length new ≤ length whole →
    slice_get (with_range whole from new) i ≡ unwrap_or (if nat_le from i && nat_lt i (from + length new) then Some (slice_get new (i - from)) else None) (slice_get whole i)
range_said whole from new i fit = elim (cases_lt i from) [
  | inl before ↦ (let f : (nat_le from i && nat_lt i (from + length new)) ≡ false = grind (arith, nat_tests) in
      slice_get-get_or (with_range whole from new) i 0 (omega (arith, length-with_range whole from new fit))
      ∙ ap Some (with_range_before whole from new fit i before)
      ∙ sym (slice_get-get_or whole i 0 (omega arith))
      ∙ sym (ap (λ b. unwrap_or (if b then Some (slice_get new (i - from)) else None) (slice_get whole i)) f))
  | inr le ↦ elim (cases_lt i (from + length new)) [
    | inl inside ↦ (let t : (nat_le from i && nat_lt i (from + length new)) ≡ true = grind (arith, nat_tests) in
        slice_get-get_or (with_range whole from new) i 0 (omega (arith, length-with_range whole from new fit))
        ∙ ap Some (with_range_inside whole from new fit i le inside)
        ∙ sym (slice_get-get_or new (i - from) 0 (omega arith))
        ∙ sym (ap (λ b. unwrap_or (if b then Some (slice_get new (i - from)) else None) (slice_get whole i)) t))
    | inr behind ↦ (let f : (nat_le from i && nat_lt i (from + length new)) ≡ false = grind (arith, nat_tests) in
        elim (cases_lt i (length whole)) [
          | inl lt ↦ (slice_get-get_or (with_range whole from new) i 0 (omega (arith, length-with_range whole from new fit))
              ∙ ap Some (with_range_after whole from new fit i behind)
              ∙ sym (slice_get-get_or whole i 0 lt))
          | inr past ↦ (slice_get_past (with_range whole from new) i (omega (arith, length-with_range whole from new fit)) ∙ sym (slice_get_past whole i past))
        ] ∙ sym (ap (λ b. unwrap_or (if b then Some (slice_get new (i - from)) else None) (slice_get whole i)) f))
  ]
]

written_said : (t : Bool) (from i : ℕ) (bytes : List ℕ) (o : Option Object) → (t ≡ true → (is_some o ≡ true) × (from + length bytes ≤ len_of o)) → IsKnown o →
    byte_of (if t then option_map (rewritten from bytes) o else o) i ≡ unwrap_or (if t && nat_le from i && nat_lt i (from + length bytes) then Some (slice_get bytes (i - from)) else None) (byte_of o i)
written_said false from i bytes o fit w = refl
written_said true from i bytes None fit w = absurd (false≢true (fit refl).0)
written_said true from i bytes (Some x) fit w =
    ap (λ y. option_and_then (λ all. slice_get all i) (option_map (λ all. with_range all from bytes) y)) w.1
    ∙ range_said w.0 from bytes i (omega (arith, w.2, (fit refl).1))
    ∙ sym (ap (λ y. unwrap_or (if nat_le from i && nat_lt i (from + length bytes) then Some (slice_get bytes (i - from)) else None) (option_and_then (λ all. slice_get all i) y)) w.1)

dropped_said : (t : Bool) (i : ℕ) (o : Option Object) → byte_of (if t then None else o) i ≡ unwrap_or (if t then Some None else None) (byte_of o i)
dropped_said true i o = refl
dropped_said false i o = refl

said_one : (c : Call) (b : Bool) (p i : ℕ) (o : Option Object) → b ≡ true → Fits c p o → IsKnown o → byte_of (changed c b p o) i ≡ unwrap_or (says c p i) (byte_of o i)
unfolding changed
said_one (Makes q len ds) b p i o e fit w = zeros_said (q == p) b len ds i o e
said_one (MakesWith q ds bytes) b p i o e fit w = bytes_said (q == p) b ds i bytes o e
said_one (Reads q from out) b p i o e fit w = refl
said_one (Writes q from bytes) b p i o e fit w = written_said (q == p) from i bytes o fit w
said_one (Drops q) b p i o e fit w = dropped_said (q == p) i o
said_one Refuses b p i o e fit w = refl
said_one Rounds b p i o e fit w = refl

said_then : (c : Call) (h k : Heap) → Well h → Calls c h k → (p i : ℕ) → byte_in k p i ≡ unwrap_or (says c p i) (byte_in h p i)
said_then c h k well did p i = ap (λ o. byte_of o i) (changes c h k well.many did p) ∙ said_one c h.honest p i (object h p) well.honest (fits c h k did p) (well.all p)

last_of : {X : Type 0} (later now : Option X) (x : X) → unwrap_or later (unwrap_or now x) ≡ unwrap_or (option_or later now) x
last_of (Some y) now x = refl
last_of None now x = refl

last_byte : (calls : List Call) (h k : Heap) → Well h → Called h calls k → (p i : ℕ) → byte_in k p i ≡ unwrap_or (last_said calls p i) (byte_in h p i)
last_byte [] h k well run p i = ap (λ (x : Heap). byte_in x p i) run
last_byte (c ∷ cs) h k well run p i =
    last_byte cs run.0 k (stays_well c h run.0 run.1 well) run.2 p i
    ∙ ap (unwrap_or (last_said cs p i)) (said_then c h run.0 well run.1 p i)
    ∙ last_of (last_said cs p i) (says c p i) (byte_in h p i)

pub last_written : LastWritten
last_written calls h k law honest run p i = last_byte calls h k (well_by h law honest) run p i

-- ---- reads
range_at : (whole : List ℕ) (from count i : ℕ) → from + count ≤ length whole → i < count → slice_get (slice_range whole from (from + count)) i ≡ slice_get whole (from + i)
range_at whole from count i fit lt =
    let long : from + count - from ≡ count = omega arith in
    ap (λ n. slice_get (take n (drop from whole)) i) long
    ∙ slice_get-get_or (take count (drop from whole)) i 0 (omega (arith, length-take-le count (drop from whole) (omega (arith, length-drop from whole))))
    ∙ ap Some (get_or-take count (drop from whole) i 0 lt ∙ get_or-drop from whole i 0)
    ∙ sym (slice_get-get_or whole (from + i) 0 (omega arith))

read_one : (o : Option Object) (from i : ℕ) (out : List ℕ) → is_some o ≡ true → from + length out ≤ len_of o → IsKnown o → IfSome (bytes_of o) (λ bytes. out ≡ slice_range bytes from (from + length out)) → i < length out →
    slice_get out i ≡ byte_of o (from + i)
read_one None from i out there fit w read lt = absurd (false≢true there)
read_one (Some x) from i out there fit w read lt =
    let is : out ≡ slice_range w.0 from (from + length out) = subst (λ y. IfSome y (λ bytes. out ≡ slice_range bytes from (from + length out))) w.1 read in
    ap (λ l. slice_get l i) is
    ∙ range_at w.0 from (length out) i (omega (arith, w.2)) lt
    ∙ sym (ap (option_and_then (λ all. slice_get all (from + i))) w.1)

read_byte : (before later : List Call) (p from : ℕ) (out : List ℕ) (h k : Heap) → Well h → Called h (before ++ Reads p from out ∷ later) k →
    (i : ℕ) → i < length out → slice_get out i ≡ unwrap_or (last_said before p (from + i)) (byte_in h p (from + i))
read_byte [] later p from out h k well run i lt =
    let r = reaches h p from (length out) run.1.0 in
    read_one (object h p) from i out r.there r.inside (well.all p) run.1.1 lt
read_byte (c ∷ before) later p from out h k well run i lt =
    read_byte before later p from out run.0 k (stays_well c h run.0 run.1 well) run.2 i lt
    ∙ ap (unwrap_or (last_said before p (from + i))) (said_then c h run.0 well run.1 p (from + i))
    ∙ last_of (last_said before p (from + i)) (says c p (from + i)) (byte_in h p (from + i))

pub reads_last : ReadsLastWritten
reads_last before later p from out h k law honest run i lt = read_byte before later p from out h k (well_by h law honest) run i lt

none_no_byte : (o : Option Object) (i : ℕ) → o ≡ None → byte_of o i ≡ None
none_no_byte o i e = ap (λ y. byte_of y i) e

said_some : (m : Option (Option ℕ)) (b : ℕ) → Some b ≡ unwrap_or m None → m ≡ Some (Some b)
said_some None b e = absurd cc
said_some (Some y) b e = ap (λ z. Some z) (sym e)

pub reads_said : ReadsWereSaid
reads_said before later p from out h k law honest none run i lt =
    let got : slice_get out i ≡ Some (get_or out i 0) = slice_get-get_or out i 0 lt in
    let told : Some (get_or out i 0) ≡ unwrap_or (last_said before p (from + i)) None = sym got ∙ read_byte before later p from out h k (well_by h law honest) run i lt ∙ ap (unwrap_or (last_said before p (from + i))) (none_no_byte (object h p) (from + i) (none p)) in
    said_some (last_said before p (from + i)) (get_or out i 0) told ∙ ap (λ z. Some z) (sym got)

-- ---- shapes
abbrev shape_of : Option Object → Shape
shape_of o = record { len = size_of o; structure = structure_of o }

made_shape : (t : Bool) (x : Object) (o : Option Object) → shape_of (if t then Some x else o) ≡ unwrap_or (if t then Some record { len = Some x.len; structure = Some x.ds } else None) (shape_of o)
made_shape true x o = refl
made_shape false x o = refl

written_shape : (t : Bool) (from : ℕ) (bytes : List ℕ) (o : Option Object) → shape_of (if t then option_map (rewritten from bytes) o else o) ≡ shape_of o
written_shape false from bytes o = refl
written_shape true from bytes None = refl
written_shape true from bytes (Some x) = refl

dropped_shape : (t : Bool) (o : Option Object) → shape_of (if t then None else o) ≡ unwrap_or (if t then Some record { len = None; structure = None } else None) (shape_of o)
dropped_shape true o = refl
dropped_shape false o = refl

shape_one : (c : Call) (b : Bool) (p : ℕ) (o : Option Object) → shape_of (changed c b p o) ≡ unwrap_or (shapes c p) (shape_of o)
unfolding changed
shape_one (Makes q len ds) b p o = made_shape (q == p) record { len = len; ds = ds; bytes = known b (replicate len 0) } o
shape_one (MakesWith q ds bytes) b p o = made_shape (q == p) (object_with b ds bytes) o
shape_one (Reads q from out) b p o = refl
shape_one (Writes q from bytes) b p o = written_shape (q == p) from bytes o
shape_one (Drops q) b p o = dropped_shape (q == p) o
shape_one Refuses b p o = refl
shape_one Rounds b p o = refl

last_made_at : (calls : List Call) (h k : Heap) → length h.objects ≡ POINTERS → Called h calls k → (p : ℕ) → shape_in k p ≡ unwrap_or (last_shape calls p) (shape_in h p)
last_made_at [] h k many run p = ap (λ (x : Heap). shape_in x p) run
last_made_at (c ∷ cs) h k many run p =
    last_made_at cs run.0 k ((stays c h run.0 run.1).many ∙ many) run.2 p
    ∙ ap (unwrap_or (last_shape cs p)) (ap shape_of (changes c h run.0 many run.1 p) ∙ shape_one c h.honest p (object h p))
    ∙ last_of (last_shape cs p) (shapes c p) (shape_in h p)

pub last_made : LastMade
last_made calls h k law run p = last_made_at calls h k law.many run p

-- ---- a dropped object
gone_made : (t : Bool) (x : Object) → t ≡ false → (if t then Some x else None) ≡ None
gone_made false x e = refl
gone_made true x e = absurd (false≢true (sym e))

gone_written : (t : Bool) (from : ℕ) (bytes : List ℕ) (o : Option Object) → o ≡ None → (if t then option_map (rewritten from bytes) o else o) ≡ None
gone_written true from bytes o e = ap (option_map (rewritten from bytes)) e
gone_written false from bytes o e = e

gone_dropped : (t : Bool) (o : Option Object) → o ≡ None → (if t then None else o) ≡ None
gone_dropped true o e = refl
gone_dropped false o e = e

gone_one : (c : Call) (b : Bool) (p : ℕ) (o : Option Object) → is_made_by c p ≡ false → o ≡ None → changed c b p o ≡ None
unfolding changed
gone_one (Makes q len ds) b p o apart e = ap (λ y. if q == p then Some record { len = len; ds = ds; bytes = known b (replicate len 0) } else y) e ∙ gone_made (q == p) record { len = len; ds = ds; bytes = known b (replicate len 0) } apart
gone_one (MakesWith q ds bytes) b p o apart e = ap (λ y. if q == p then Some (object_with b ds bytes) else y) e ∙ gone_made (q == p) (object_with b ds bytes) apart
gone_one (Reads q from out) b p o apart e = e
gone_one (Writes q from bytes) b p o apart e = gone_written (q == p) from bytes o e
gone_one (Drops q) b p o apart e = gone_dropped (q == p) o e
gone_one Refuses b p o apart e = e
gone_one Rounds b p o apart e = e

gone_on : (calls : List Call) (h k : Heap) (p : ℕ) → length h.objects ≡ POINTERS → Called h calls k → AreMadeElsewhere calls p → object h p ≡ None → object k p ≡ None
gone_on [] h k p many run apart e = ap (λ (x : Heap). object x p) run ∙ e
gone_on (c ∷ cs) h k p many run apart e =
    gone_on cs run.0 k p ((stays c h run.0 run.1).many ∙ many) run.2 apart.1 (changes c h run.0 many run.1 p ∙ gone_one c h.honest p (object h p) apart.0 e)

gone_from : (before later : List Call) (h k : Heap) (p : ℕ) → length h.objects ≡ POINTERS → Called h (before ++ Drops p ∷ later) k → AreMadeElsewhere later p → object k p ≡ None
gone_from [] later h k p many run apart =
    gone_on later run.0 k p ((stays (Drops p) h run.0 run.1).many ∙ many) run.2 apart
    (ap (λ (x : Heap). object x p) run.1.1 ∙ get_or-set_same h.objects p None None (within h p run.1.0))
gone_from (c ∷ before) later h k p many run apart = gone_from before later run.0 k p ((stays c h run.0 run.1).many ∙ many) run.2 apart

pub dropped_gone : DroppedIsGone
dropped_gone before later p h k law run apart = gone_from before later h k p law.many run apart

-- ---- objects apart
apart_one : (c : Call) (h k : Heap) (p : ℕ) → Calls c h k → touches c p ≡ false → object k p ≡ object h p
apart_one (Makes q len ds) h k p did ne = ap (λ (x : Heap). object x p) did.3 ∙ put_beside h q (Some record { len = len; ds = ds; bytes = known h.honest (replicate len 0) }) p ne
apart_one (MakesWith q ds bytes) h k p did ne = ap (λ (x : Heap). object x p) did.3 ∙ put_beside h q (Some (object_with h.honest ds bytes)) p ne
apart_one (Reads q from out) h k p did ne = ap (λ (x : Heap). object x p) did.2
apart_one (Writes q from bytes) h k p did ne = ap (λ (x : Heap). object x p) did.1 ∙ put_beside h q (option_map (rewritten from bytes) (object h q)) p ne
apart_one (Drops q) h k p did ne = ap (λ (x : Heap). object x p) did.1 ∙ put_beside h q None p ne
apart_one Refuses h k p did ne = ap (λ (x : Heap). object x p) did
apart_one Rounds h k p did ne = ap (λ (x : Heap). object x p) did

pub apart : ObjectsApart
apart [] p h k run elsewhere = ap (λ (x : Heap). object x p) run
apart (c ∷ cs) p h k run elsewhere = apart cs p run.0 k run.2 elsewhere.1 ∙ apart_one c h run.0 p run.1 elsewhere.0
