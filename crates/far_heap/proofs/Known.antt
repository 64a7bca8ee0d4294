-- For callers' proofs: what a mutator knows of an object's bytes after its calls, and what is read where bytes were written.
use Rattle.std.proofs.Common.{◌≡◌, ◌≢◌, ◌⊎◌, ℕ, ◌+◌, ◌-◌, ◌/◌, ◌%◌, ◌<◌, ◌≤◌, Bool, true, false, Option, Some, None, is_some, List, length, drop, get_or, refl, sym, ap, ◌∙◌, inl, inr, arith, eqb}
use Rattle.std.specs.Prelude.{if◌then◌else◌, option_map, replicate, slice_index_or, slice_range, slice_set}
use Rattle.std.proofs.lemmas.Bool.{cases_eq, eqb-true, false≢true, ne_eqb}
use Rattle.std.proofs.lemmas.Grind.{get_or-set_at}
use Rattle.std.proofs.lemmas.List.{ext_get_or, get_or-drop, get_or-set_other, get_or-take, length-drop, length-take-le}
use Rattle.far_word.specs.declared.sizes.TheConstants.{CELLS}
use Rattle.far_heap.specs.Mine.{Mine, Object, adopting, bytes_in, dropping, known_bytes, object_of, owns, rewritten, uses, with_range, writing, zeros_known}
use Rattle.far_heap.proofs.Spliced.{length-with_range, with_range_after, with_range_before, with_range_inside}

-- ---- what stands at a mutator's pointers, of which one is set anew
abbrev pub at_own : {X : Type 0} → ℕ → List X → ℕ → X → X
at_own number row q d = if eqb (q / CELLS) number then slice_index_or row (q % CELLS) d else d

module _ {X : Type 0} (number : ℕ) (row : List X) (many : length row ≡ CELLS) (p : ℕ) (own : eqb (p / CELLS) number ≡ true) (x d : X) where
  pub row_here : at_own number (slice_set row (p % CELLS) x) p d ≡ x
  row_here = rw own (get_or-set_at row (p % CELLS) (p % CELLS) x d refl (omega (arith, many)))

  pub row_other : (q : ℕ) → q ≢ p → at_own number (slice_set row (p % CELLS) x) q d ≡ at_own number row q d
  row_other q ne = elim (cases_eq (q / CELLS) number) [
    | inl mine ↦ (let here = eqb-true (p / CELLS) number own in
        ap (λ o. if eqb (q / CELLS) number then o else d) (get_or-set_other row (p % CELLS) (q % CELLS) x d (λ e. ne (omega (arith, mine, here)))))
    | inr other ↦ rw (ne_eqb (q / CELLS) number other) refl
  ]

-- ---- what is known is of an object that it has
owned : (b : Bool) (o : Option Object) (all : List ℕ) → known_bytes (if b then o else None) ≡ Some all → b ≡ true
owned true o all h = refl
owned false o all h = absurd (cc)

used_own : (b : Bool) (o : Option Object) → is_some (if b then o else None) ≡ true → b ≡ true
used_own true o h = refl
used_own false o h = absurd (false≢true h)

some_known : (o : Option Object) (all : List ℕ) → known_bytes o ≡ Some all → is_some o ≡ true
some_known None all h = absurd (cc)
some_known (Some x) all h = refl

known_rewritten : (x : Option Object) (from : ℕ) (new all : List ℕ) → known_bytes x ≡ Some all → known_bytes (option_map (rewritten from new) x) ≡ Some (with_range all from new)
known_rewritten None from new all e = absurd (cc)
known_rewritten (Some x) from new all e = ap (option_map (λ bytes. with_range bytes from new)) e

module _ (m : Mine) where
  pub uses_own : (p : ℕ) → uses m p ≡ true → owns m p ≡ true
  uses_own p h = used_own (owns m p) (slice_index_or m.objects (p % CELLS) None) h

  pub known_own : (p : ℕ) (all : List ℕ) → bytes_in m p ≡ Some all → owns m p ≡ true
  known_own p all known = owned (owns m p) (slice_index_or m.objects (p % CELLS) None) all known

  pub known_used : (p : ℕ) (all : List ℕ) → bytes_in m p ≡ Some all → uses m p ≡ true
  known_used p all known = some_known (object_of m p) all known

-- ---- what it knows after its calls, each by the row's length, which is of its law
module _ (m : Mine) (many : length m.objects ≡ CELLS) where
  -- a new object's bytes are zeros
  pub made : (p len ds : ℕ) → owns m p ≡ true → m.honest ≡ true → bytes_in (adopting p len ds m) p ≡ Some (replicate len 0)
  made p len ds own honest = ap known_bytes (row_here m.number m.objects many p own (Some record { len = len; ds = ds; bytes = zeros_known m.honest len }) None)
      ∙ ap (λ h. zeros_known h len) honest

  -- those that are written are there, with all others
  pub written : (p from : ℕ) (new all : List ℕ) → bytes_in m p ≡ Some all → bytes_in (writing p from new m) p ≡ Some (with_range all from new)
  written p from new all known =
      ap known_bytes (row_here m.number m.objects many p (known_own m p all known) (option_map (rewritten from new) (object_of m p)) None)
      ∙ known_rewritten (object_of m p) from new all known

  -- another object is made, written or dropped
  others : (q : ℕ) (x : Option Object) → owns m q ≡ true → (p : ℕ) (all : List ℕ) → p ≢ q → bytes_in m p ≡ Some all
      → bytes_in (record m { objects = slice_set m.objects (q % CELLS) x }) p ≡ Some all
  others q x own p all ne known = ap known_bytes (row_other m.number m.objects many q own x None p ne) ∙ known

  pub beside : (q len ds : ℕ) → owns m q ≡ true → uses m q ≡ false → (p : ℕ) (all : List ℕ) → bytes_in m p ≡ Some all
      → (bytes_in (adopting q len ds m) p ≡ Some all) × (p ≢ q)
  beside q len ds own unused p all known =
      let ne : p ≢ q = λ e. false≢true (sym unused ∙ ap (λ z. uses m z) (sym e) ∙ known_used m p all known) in
      (others q (Some record { len = len; ds = ds; bytes = zeros_known m.honest len }) own p all ne known, ne)

  pub after_write : (q from : ℕ) (new : List ℕ) → uses m q ≡ true → (p : ℕ) (all : List ℕ) → p ≢ q → bytes_in m p ≡ Some all → bytes_in (writing q from new m) p ≡ Some all
  after_write q from new used p all ne known = others q (option_map (rewritten from new) (object_of m q)) (uses_own m q used) p all ne known

  pub after_drop : (q : ℕ) → owns m q ≡ true → (p : ℕ) (all : List ℕ) → p ≢ q → bytes_in m p ≡ Some all → bytes_in (dropping q m) p ≡ Some all
  after_drop q own p all ne known = others q None own p all ne known

-- ---- what is read where bytes were written
module _ (all : List ℕ) (from : ℕ) (new : List ℕ) (fits : from + length new ≤ length all) where
  pub long_written : length (with_range all from new) ≡ length all
  long_written = length-with_range all from new fits

  part_long : (xs : List ℕ) (at n : ℕ) → at + n ≤ length xs → length (slice_range xs at (at + n)) ≡ n
  part_long xs at n inside = length-take-le (at + n - at) (drop at xs) (omega (arith, length-drop at xs)) ∙ omega arith

  part_at : (xs : List ℕ) (at n k : ℕ) → k < n → get_or (slice_range xs at (at + n)) k 0 ≡ get_or xs (at + k) 0
  part_at xs at n k lt = get_or-take (at + n - at) (drop at xs) k 0 (omega arith) ∙ get_or-drop at xs k 0

  -- these bytes
  pub range_written : slice_range (with_range all from new) from (from + length new) ≡ new
  range_written =
      let many = part_long (with_range all from new) from (length new) (omega (arith, long_written, fits)) in
      ext_get_or 0 (slice_range (with_range all from new) from (from + length new)) new many (λ k lt.
      let at : from + k - from ≡ k = omega arith in
      part_at (with_range all from new) from (length new) k (omega (arith, many)) ∙ with_range_inside all from new fits (from + k) (omega arith) (omega (arith, many)) ∙ ap (λ i. get_or new i 0) at)

  -- beside them, as before
  pub range_kept : (at n : ℕ) → at + n ≤ length all → (at + n ≤ from) ⊎ (from + length new ≤ at) → slice_range (with_range all from new) at (at + n) ≡ slice_range all at (at + n)
  range_kept at n inside beside =
      let many = part_long (with_range all from new) at n (omega (arith, long_written, inside)) in
      ext_get_or 0 (slice_range (with_range all from new) at (at + n)) (slice_range all at (at + n)) (many ∙ sym (part_long all at n inside)) (λ k lt.
      let few : k < n = omega (arith, many) in
      part_at (with_range all from new) at n k few
      ∙ elim beside [
        | inl before ↦ with_range_before all from new fits (at + k) (omega arith)
        | inr behind ↦ with_range_after all from new fits (at + k) (omega arith)
      ] ∙ sym (part_at all at n k few))
