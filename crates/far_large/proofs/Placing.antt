-- Parts made and dropped one by one.
use Rattle.std.proofs.Common.{◌≡◌, ◌≢◌, ℕ, zero, suc, ◌+◌, ◌<◌, ◌⊎◌, inl, inr, Option, Some, None, List, length, sym, ◌∙◌, ap, subst, arith, get_or-set_other, get_or-set_same, below_more}
use Rattle.std.specs.Prelude.{slice_set}
use Rattle.std.proofs.lemmas.Bool.Decides.{eqb_tells}
use Rattle.far_objects.specs.Far.{Far, Makes, Others}
use Rattle.far_large.specs.Parts.{AreApart, HasBytes, IsNone, OthersThan, Placed, number_of, part_of}

none_some : {n : ℕ} {o : Option ℕ} → o ≡ None → o ≡ Some n → ⊥
none_some e f = cc

-- ---- of the first so many numbers one is this, or none is
pub record IsOne (numbers : List ℕ) (count k : ℕ) : Type 0 where
  pub place : ℕ
  pub within : place < count
  pub is : number_of numbers place ≡ k

pub among : (numbers : List ℕ) (count k : ℕ) → IsOne numbers count k ⊎ IsNone numbers count k
among numbers zero k = inr (λ i h. absurd (omega arith))
among numbers (suc n) k = elim (eqb_tells (number_of numbers n) k) [
  | inl here ↦ inl (record { place = n; within = omega arith; is = here.1 })
  | inr other ↦ elim (among numbers n k) [
    | inl found ↦ inl (record { place = found.place; within = omega arith; is = found.is })
    | inr none ↦ inr (λ i h. below_more (λ i. number_of numbers i ≢ k) n none other.1 i (omega arith))
  ]
]

-- ---- an object keeps its bytes
pub kept_by : (h n : ℕ) (xs : List ℕ) (now new : Far) → Others h now new → n ≢ h → HasBytes now n xs → HasBytes new n xs
kept_by h n xs now new others ne b = record { size = others.sizes n ne ∙ b.size; bytes = λ honest. others.bytes n ne ∙ b.bytes (sym others.honest ∙ honest) }

-- ---- one more is made
module _ (numbers : List ℕ) (i h : ℕ) (xs : List ℕ) (old now new : Far) (within : i < length numbers) (was : Placed numbers i xs old now) (m : Makes h (part_of xs i) now new) where
  at_end : number_of (slice_set numbers i h) i ≡ h
  at_end = rw get_or-set_same

  below : (k : ℕ) → k < i → number_of (slice_set numbers i h) k ≡ number_of numbers k
  below k l = let ne : k ≢ i = omega arith in rw get_or-set_other

  -- the new number is none of those before
  new_other : (k : ℕ) → k < i → number_of numbers k ≢ h
  new_other k l e = none_some m.fresh (ap now.sizes (sym e) ∙ (was.holds k l).size)

  make_apart : AreApart (slice_set numbers i h) (i + 1)
  make_apart a b l u = below_more (λ b. (a : ℕ) → a < b → number_of (slice_set numbers i h) a ≢ number_of (slice_set numbers i h) b) i
      (λ b v a l e. was.apart a b l v (sym (below a (omega arith)) ∙ e ∙ below b v))
      (λ a l e. new_other a l (sym (below a l) ∙ e ∙ at_end)) b u a l

  make_fresh : (k : ℕ) → k < i + 1 → old.sizes (number_of (slice_set numbers i h) k) ≡ None
  make_fresh = below_more (λ k. old.sizes (number_of (slice_set numbers i h) k) ≡ None) i
      (λ k l. ap old.sizes (below k l) ∙ was.fresh k l)
      (ap old.sizes at_end ∙ sym (was.others.sizes h new_other) ∙ m.fresh)

  make_holds : (k : ℕ) → k < i + 1 → HasBytes new (number_of (slice_set numbers i h) k) (part_of xs k)
  make_holds = below_more (λ k. HasBytes new (number_of (slice_set numbers i h) k) (part_of xs k)) i
      (λ k l. subst (λ n. HasBytes new n (part_of xs k)) (sym (below k l)) (kept_by h (number_of numbers k) (part_of xs k) now new m.others (new_other k l) (was.holds k l)))
      (subst (λ n. HasBytes new n (part_of xs i)) (sym at_end) (record { size = m.size; bytes = λ honest. m.bytes (sym m.others.honest ∙ honest) }))

  make_others : OthersThan (slice_set numbers i h) (i + 1) old new
  make_others = record {
    honest = m.others.honest ∙ was.others.honest;
    sizes = λ k none. m.others.sizes k (λ e. none i (omega arith) (at_end ∙ sym e)) ∙ was.others.sizes k (λ j l e. none j (omega arith) (below j l ∙ e));
    bytes = λ k none. m.others.bytes k (λ e. none i (omega arith) (at_end ∙ sym e)) ∙ was.others.bytes k (λ j l e. none j (omega arith) (below j l ∙ e));
  }

  pub make_more : Placed (slice_set numbers i h) (i + 1) xs old new
  make_more = record { apart = make_apart; fresh = make_fresh; holds = make_holds; others = make_others }
