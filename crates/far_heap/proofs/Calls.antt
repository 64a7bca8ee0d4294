-- What a mutator's own calls say of its objects' bytes.
use Rattle.std.proofs.Common.{◌≡◌, ◌≢◌, ◌⊎◌, ℕ, ◌+◌, ◌-◌, ◌/◌, ◌%◌, ◌<◌, ◌≤◌, Bool, true, false, Option, Some, None, List, [], ◌∷◌, ◌++◌, length, refl, sym, ap, subst, ◌∙◌, inl, inr, arith}
use Rattle.std.specs.Prelude.{option_map, replicate, slice_index, slice_set}
use Rattle.std.proofs.lemmas.Bool.{cases_eq, eq-eqb, false≢true, ne_eqb}
use Rattle.std.proofs.lemmas.List.{get_or-replicate, length-replicate, length-set}
use Rattle.atomic_table.specs.Seated.{TableId}
use Rattle.far_word.specs.declared.sizes.TheConstants.{CELLS}
use Rattle.far_heap.specs.Calls.{Call, Called, Opens, Closes, Asks, Views, Makes, Drops, Writes, LeaveByte, LeavesByte, MayCall, ReadsGiveLastWrites, SaysByte, after_call}
use Rattle.far_heap.specs.Mine.{Mine, Object, known_bytes, len_of, newcomer, object_of, owns, rewritten, with_range, zeros_known}
use Rattle.far_heap.proofs.Known.{row_here, row_other}
use Rattle.far_heap.proofs.OwnRows.{length-own_row, own_row-get}
use Rattle.far_heap.proofs.Spliced.{length-with_range, with_range_after, with_range_before, with_range_inside}

-- ---- one object of a mutator is another
module _ (m : Mine) (many : length m.objects ≡ CELLS) (p : ℕ) (own : owns m p ≡ true) (x : Option Object) where
  pub there : object_of (record m { objects = slice_set m.objects (p % CELLS) x }) p ≡ x
  there = row_here m.number m.objects many p own x None

  elsewhere : (q : ℕ) → q ≢ p → object_of (record m { objects = slice_set m.objects (p % CELLS) x }) q ≡ object_of m q
  elsewhere q ne = row_other m.number m.objects many p own x None q ne

-- ---- what is known of a mutator's objects, where the far side is honest: all their bytes
abbrev IsWell : Option Object → Type 0
IsWell None = Unit {0}
IsWell (Some x) = (bytes : List ℕ) × (x.bytes ≡ Some bytes) × (length bytes ≡ x.len)

record Well (m : Mine) : Type 0 where
  many : length m.objects ≡ CELLS
  honest : m.honest ≡ true
  all : (q : ℕ) → IsWell (object_of m q)

well_with : (m : Mine) → Well m → (p : ℕ) → owns m p ≡ true → (x : Option Object) → IsWell x → Well (record m { objects = slice_set m.objects (p % CELLS) x })
well_with m w p own x is = record {
  many = length-set m.objects (p % CELLS) x ∙ w.many;
  honest = w.honest;
  all = λ q. elim (cases_eq q p) [
    | inl e ↦ subst (λ k. IsWell (object_of (record m { objects = slice_set m.objects (p % CELLS) x }) k)) (sym e) (subst IsWell (sym (there m w.many p own x)) is)
    | inr ne ↦ subst IsWell (sym (elsewhere m w.many p own x q ne)) (w.all q)
  ];
}

zeros_well : (h : Bool) (len ds : ℕ) → h ≡ true → IsWell (Some record { len = len; ds = ds; bytes = zeros_known h len })
zeros_well true len ds e = (replicate len 0, refl, length-replicate len 0)
zeros_well false len ds e = absurd (false≢true e)

rewritten_well : (x : Option Object) (from : ℕ) (bytes : List ℕ) → IsWell x → from + length bytes ≤ len_of x → IsWell (option_map (rewritten from bytes) x)
rewritten_well None from bytes w fits = tt
rewritten_well (Some x) from bytes w fits = (with_range w.0 from bytes, ap (option_map (λ b. with_range b from bytes)) w.1, length-with_range w.0 from bytes (omega (arith, w.2)) ∙ w.2)

-- ---- a call keeps what is known
stays_well : (c : Call) (m : Mine) → MayCall c m → Well m → Well (after_call c m)
stays_well Opens m may w = record { many = w.many; honest = w.honest; all = w.all }
stays_well Closes m may w = record { many = w.many; honest = w.honest; all = w.all }
stays_well (Asks p n) m may w = record { many = w.many; honest = w.honest; all = w.all }
stays_well (Views p) m may w = record { many = w.many; honest = w.honest; all = w.all }
stays_well (Makes p len ds) m may w = well_with m w p may (Some record { len = len; ds = ds; bytes = zeros_known m.honest len }) (zeros_well m.honest len ds w.honest)
stays_well (Drops p) m may w = well_with m w p may None tt
stays_well (Writes p from bytes) m may w =
    let stored = well_with m w p may.0 (option_map (rewritten from bytes) (object_of m p)) (rewritten_well (object_of m p) from bytes (w.all p) may.1) in
    record { many = stored.many; honest = stored.honest; all = stored.all }

-- ---- byte k of an object is b
abbrev HasIn : Option Object → ℕ → ℕ → Type 0
HasIn None k b = ⊥
HasIn (Some x) k b = (bytes : List ℕ) × (x.bytes ≡ Some bytes) × (slice_index bytes k ≡ b) × (k < length bytes)

zeros_has : (h : Bool) (len ds k : ℕ) → h ≡ true → k < len → HasIn (Some record { len = len; ds = ds; bytes = zeros_known h len }) k 0
zeros_has true len ds k e lt = (replicate len 0, refl, get_or-replicate len k 0 0 lt, omega (arith, lt, length-replicate {A = ℕ} len 0))
zeros_has false len ds k e lt = absurd (false≢true e)

rewritten_has : (x : Option Object) (from : ℕ) (bytes : List ℕ) (k b : ℕ) → IsWell x → from + length bytes ≤ len_of x → from ≤ k → k < from + length bytes → slice_index bytes (k - from) ≡ b →
    HasIn (option_map (rewritten from bytes) x) k b
rewritten_has None from bytes k b w fits le lt is = absurd (omega arith)
rewritten_has (Some x) from bytes k b w fits le lt is =
    let inside : from + length bytes ≤ length w.0 = omega (arith, w.2) in
    (with_range w.0 from bytes, ap (option_map (λ y. with_range y from bytes)) w.1, with_range_inside w.0 from bytes inside k le lt ∙ is, omega (arith, length-with_range w.0 from bytes inside))

rewritten_leaves : (x : Option Object) (from : ℕ) (bytes : List ℕ) (k b : ℕ) → IsWell x → from + length bytes ≤ len_of x → (k < from) ⊎ (from + length bytes ≤ k) → HasIn x k b →
    HasIn (option_map (rewritten from bytes) x) k b
rewritten_leaves None from bytes k b w fits beside has = has
rewritten_leaves (Some x) from bytes k b w fits beside has =
    let some : Some w.0 ≡ Some has.0 = sym w.1 ∙ has.1 in
    let same : w.0 ≡ has.0 = cc in
    let inside : from + length bytes ≤ length has.0 = omega (arith, w.2, ap length same) in (
      with_range has.0 from bytes,
      ap (option_map (λ y. with_range y from bytes)) has.1,
      elim beside [
        | inl lt ↦ with_range_before has.0 from bytes inside k lt ∙ has.2
        | inr le ↦ with_range_after has.0 from bytes inside k le ∙ has.2
      ],
      (let far = has.3 in omega (arith, length-with_range has.0 from bytes inside)),
    )

-- a call says it
says_so : (c : Call) (m : Mine) (p k b : ℕ) → Well m → MayCall c m → SaysByte c p k b → HasIn (object_of (after_call c m) p) k b
says_so Opens m p k b w may says = absurd says
says_so Closes m p k b w may says = absurd says
says_so (Asks q n) m p k b w may says = absurd says
says_so (Views q) m p k b w may says = absurd says
says_so (Makes q len ds) m p k b w may says =
    subst (λ z. HasIn (object_of (after_call (Makes q len ds) m) z) k b) says.0
    (subst (λ o. HasIn o k b) (sym (there m w.many q may (Some record { len = len; ds = ds; bytes = zeros_known m.honest len })))
    (subst (HasIn (Some record { len = len; ds = ds; bytes = zeros_known m.honest len }) k) (sym says.2) (zeros_has m.honest len ds k w.honest says.1)))
says_so (Drops q) m p k b w may says = absurd says
says_so (Writes q from bytes) m p k b w may says =
    subst (λ z. HasIn (object_of (after_call (Writes q from bytes) m) z) k b) says.0
    (subst (λ o. HasIn o k b) (sym (there m w.many q may.0 (option_map (rewritten from bytes) (object_of m q))))
    (rewritten_has (object_of m q) from bytes k b (w.all q) may.1 says.1 says.2 says.3))

-- or leaves it
leaves_so : (c : Call) (m : Mine) (p k b : ℕ) → Well m → MayCall c m → LeavesByte c p k → HasIn (object_of m p) k b → HasIn (object_of (after_call c m) p) k b
leaves_so Opens m p k b w may leaves has = has
leaves_so Closes m p k b w may leaves has = has
leaves_so (Asks q n) m p k b w may leaves has = has
leaves_so (Views q) m p k b w may leaves has = has
leaves_so (Makes q len ds) m p k b w may leaves has = subst (λ o. HasIn o k b) (sym (elsewhere m w.many q may (Some record { len = len; ds = ds; bytes = zeros_known m.honest len }) p (λ e. leaves (sym e)))) has
leaves_so (Drops q) m p k b w may leaves has = subst (λ o. HasIn o k b) (sym (elsewhere m w.many q may None p (λ e. leaves (sym e)))) has
leaves_so (Writes q from bytes) m p k b w may leaves has =
    let x : Option Object = option_map (rewritten from bytes) (object_of m q) in
    elim (cases_eq p q) [
      | inl e ↦ subst (λ z. HasIn (object_of (after_call (Writes q from bytes) m) z) k b) (sym e)
          (subst (λ o. HasIn o k b) (sym (there m w.many q may.0 x))
          (elim leaves [
            | inl ne ↦ absurd (ne (sym e))
            | inr beside ↦ rewritten_leaves (object_of m q) from bytes k b (w.all q) may.1 beside (subst (λ z. HasIn (object_of m z) k b) e has)
          ]))
      | inr ne ↦ subst (λ o. HasIn o k b) (sym (elsewhere m w.many q may.0 x p ne)) has
    ]

-- ---- all calls
after_later : (later : List Call) (m n : Mine) (p k b : ℕ) → Well m → Called m later n → LeaveByte later p k → HasIn (object_of m p) k b → HasIn (object_of n p) k b
after_later [] m n p k b w run leave has = subst (λ (z : Mine). HasIn (object_of z p) k b) run has
after_later (c ∷ cs) m n p k b w run leave has = after_later cs (after_call c m) n p k b (stays_well c m run.0 w) run.1 leave.1 (leaves_so c m p k b w run.0 leave.0 has)

from_start : (before : List Call) (c : Call) (later : List Call) (m n : Mine) (p k b : ℕ) → Well m → Called m (before ++ c ∷ later) n → SaysByte c p k b → LeaveByte later p k → HasIn (object_of n p) k b
from_start [] c later m n p k b w run says leave = after_later later (after_call c m) n p k b (stays_well c m run.0 w) run.1 leave (says_so c m p k b w run.0 says)
from_start (x ∷ xs) c later m n p k b w run says leave = from_start xs c later (after_call x m) n p k b (stays_well x m run.0 w) run.1 says leave

nothing_there : (number : ℕ) (table : TableId) (q : ℕ) → object_of (newcomer table number true) q ≡ None
nothing_there number table q = elim (cases_eq (q / CELLS) number) [
  | inl own ↦ rw (eq-eqb (q / CELLS) number own) (own_row-get (λ _. None) number q None own)
  | inr ne ↦ rw (ne_eqb (q / CELLS) number ne) refl
]

well_new : (table : TableId) (number : ℕ) → Well (newcomer table number true)
well_new table number = record { many = length-own_row (λ _. None) number; honest = refl; all = λ q. subst IsWell (sym (nothing_there number table q)) tt }

told : (o : Option Object) (k b : ℕ) → HasIn o k b → (bytes : List ℕ) × (known_bytes o ≡ Some bytes) × (slice_index bytes k ≡ b) × (k < length bytes)
told None k b has = absurd has
told (Some x) k b has = has

pub reads_give_last_writes : ReadsGiveLastWrites
reads_give_last_writes table number calls m p k b run last =
    told (object_of m p) k b (from_start last.before last.call last.later (newcomer table number true) m p k b (well_new table number)
    (subst (λ (cs : List Call). Called (newcomer table number true) cs m) last.are run) last.says last.leave)
