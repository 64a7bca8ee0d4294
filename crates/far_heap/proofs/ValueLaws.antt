-- A value that was written is the one that is read.
use Rattle.std.proofs.Common.{◌≡◌, ℕ, ◌+◌, ◌-◌, ◌<◌, ◌≤◌, true, Option, Some, None, List, length, get_or, Result, Ok, Err, refl, ap, subst, ◌∙◌, arith}
use Rattle.std.specs.Prelude.{IfSome, option_map, slice_index, slice_range}
use Rattle.far_word.specs.declared.refused.Refused.{Refused}
use Rattle.far_heap.specs.Mine.{Mine, Object, access_refusal, bytes_in, len_in, len_of, object_of, rewritten, with_range, writing}
use Rattle.far_heap.specs.MineLaw.{MineLaw}
use Rattle.far_heap.specs.Values.{ReadsAs, ValuesComeBack}
use Rattle.far_heap.proofs.Known.{range_written, row_here, uses_own, written}
use Rattle.far_heap.proofs.Refusals.{access_allowed, access_within}
use Rattle.far_heap.proofs.Spliced.{with_range_inside}

len_rewritten : (x : Option Object) (from : ℕ) (bytes : List ℕ) → len_of (option_map (rewritten from bytes) x) ≡ len_of x
len_rewritten None from bytes = refl
len_rewritten (Some x) from bytes = refl

not_both : (o : Option Refused) (why : Refused) → o ≡ None → o ≡ Some why → ⊥
not_both o why none some = cc

one_cause : (o : Option Refused) (a b : Refused) → o ≡ Some a → o ≡ Some b → a ≡ b
one_cause o a b first second = cc

-- ---- after a write that was made
module _ (bytes : List ℕ) (m : Mine) (p from : ℕ) (law : MineLaw m) (honest : m.honest ≡ true) (may : access_refusal m p from (length bytes) ≡ None) where
  -- the object's bytes before
  before : (all : List ℕ) × (bytes_in m p ≡ Some all) × (from + length bytes ≤ length all)
  before =
      let within = access_within m p from (length bytes) may in
      let inside = within.2 in
      let known = law.known honest p (law.used p within.0) in
      (known.0, known.1, omega (arith, inside, known.2))

  now : bytes_in (writing p from bytes m) p ≡ Some (with_range before.0 from bytes)
  now = written m law.many.0 p from bytes before.0 before.1

  placed_at : (k : ℕ) → k < length bytes → slice_index (with_range before.0 from bytes) (from + k) ≡ slice_index bytes k
  placed_at k lt =
      let at : from + k - from ≡ k = omega arith in
      with_range_inside before.0 from bytes before.2 (from + k) (omega arith) (omega (arith, lt)) ∙ ap (λ i. get_or bytes i 0) at

  read_back : (value : List ℕ → List ℕ) (x : List ℕ) → ReadsAs value (length bytes) (writing p from bytes m) p from (Ok x) → x ≡ value bytes
  read_back value x read =
      subst (λ (o : Option (List ℕ)). IfSome o (λ all. x ≡ value (slice_range all from (from + length bytes)))) now read.1 ∙ ap value (range_written before.0 from bytes before.2)

  as_long : len_in (writing p from bytes m) p ≡ len_in m p
  as_long =
      let within = access_within m p from (length bytes) may in
      let own = uses_own m p (law.used p within.0) in
      ap len_of (row_here m.number m.objects law.many.0 p own (option_map (rewritten from bytes) (object_of m p)) None) ∙ len_rewritten (object_of m p) from bytes

  allowed : access_refusal (writing p from bytes m) p from (length bytes) ≡ None
  allowed =
      let within = access_within m p from (length bytes) may in
      let inside = within.2 in
      access_allowed (writing p from bytes m) p from (length bytes) within.0 within.1 (omega (arith, inside, as_long))

-- ---- or refused
alike : (value : List ℕ → List ℕ) (n : ℕ) (m later : Mine) (p from : ℕ) (why : Refused) (r : Result (List ℕ) Refused) → access_refusal m p from n ≡ Some why → later ≡ m →
    ReadsAs value n later p from r → r ≡ Err why
alike value n m later p from why (Ok x) so same read = absurd (not_both (access_refusal m p from n) why (subst (λ (a : Mine). access_refusal a p from n ≡ None) same read.0) so)
alike value n m later p from why (Err other) so same read = ap Err (one_cause (access_refusal m p from n) other why (subst (λ (a : Mine). access_refusal a p from n ≡ Some other) same read) so)

pub values_come_back : ValuesComeBack
values_come_back = record {
  placed = λ bytes m later p from k done law honest wrote lt. (
    with_range (before bytes m p from law honest wrote.0).0 from bytes,
    ap (λ (x : Mine). bytes_in x p) wrote.1 ∙ now bytes m p from law honest wrote.0,
    placed_at bytes m p from law honest wrote.0 k lt,
  );
  back = λ value bytes x m later p from done law honest wrote read.
      read_back bytes m p from law honest wrote.0 value x (subst (λ (a : Mine). ReadsAs value (length bytes) a p from (Ok x)) wrote.1 read);
  readable = λ value bytes m later p from done why law honest wrote read.
      not_both (access_refusal (writing p from bytes m) p from (length bytes)) why (allowed bytes m p from law honest wrote.0)
      (subst (λ (a : Mine). access_refusal a p from (length bytes) ≡ Some why) wrote.1 read);
  refused = λ value bytes n m later p from why r wrote read. alike value n m later p from why r wrote.0 wrote.1 read;
}
