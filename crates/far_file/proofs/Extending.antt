-- Pages get extents that no other has.
use Rattle.std.proofs.Common.{◌≡◌, ◌∙◌, ◌+◌, ◌<◌, ◌≤◌, ◌⊎◌, inl, inr, ap, sym, subst, refl, ℕ, zero, suc, List, [], ◌∷◌, length, slice_index, arith}
use Rattle.std.proofs.Math.ListN.{set}
use Rattle.far_file.specs.Where.{AreApart, HasExtent, KeepsExtents}

-- extents that are read alike are apart alike
pub alike : (old new : List ℕ) (below : ℕ) → ((p : ℕ) → slice_index new p ≡ slice_index old p) → AreApart old below → AreApart new below
alike old new below same law = record {
  alone = λ p q there is. law.alone p q (subst (λ e. 0 < e) (same p) there) (sym (same p) ∙ is ∙ same q);
  low = λ p. subst (λ e. e < below) (sym (same p)) (law.low p);
}

-- a place that is set, and each other
abbrev Set : List ℕ → ℕ → ℕ → ℕ → Type 0
Set xs i e p = ((p ≡ i) × (slice_index (set xs i e) p ≡ e)) ⊎ (slice_index (set xs i e) p ≡ slice_index xs p)

further : (x : ℕ) (xs : List ℕ) (i e p : ℕ) → Set xs i e p → Set (x ∷ xs) (suc i) e (suc p)
further x xs i e p (inl here) = inl (ap suc here.0, here.1)
further x xs i e p (inr other) = inr other

set_cases : (xs : List ℕ) (i e p : ℕ) → Set xs i e p
set_cases [] i e p = inr refl
set_cases (x ∷ xs) zero e zero = inl (refl, refl)
set_cases (x ∷ xs) zero e (suc p) = inr refl
set_cases (x ∷ xs) (suc i) e zero = inr refl
set_cases (x ∷ xs) (suc i) e (suc p) = further x xs i e p (set_cases xs i e p)

pub set_here : (xs : List ℕ) (i e : ℕ) → i < length xs → slice_index (set xs i e) i ≡ e
set_here [] i e within = absurd (omega arith)
set_here (x ∷ xs) zero e within = refl
set_here (x ∷ xs) (suc i) e within = set_here xs i e (omega arith)

alone_in : (xs : List ℕ) (i e below p q : ℕ) → AreApart xs below → below ≤ e → Set xs i e p → Set xs i e q → HasExtent (set xs i e) p → slice_index (set xs i e) p ≡ slice_index (set xs i e) q → p ≡ q
alone_in xs i e below p q law high (inl a) (inl b) there is = a.0 ∙ sym b.0
alone_in xs i e below p q law high (inl a) (inr b) there is = absurd (omega (arith, a.1, b, is, law.low q))
alone_in xs i e below p q law high (inr a) (inl b) there is = absurd (omega (arith, b.1, a, is, law.low p))
alone_in xs i e below p q law high (inr a) (inr b) there is = law.alone p q (subst (λ x. 0 < x) a there) (sym a ∙ is ∙ b)

low_in : (xs : List ℕ) (i e below p : ℕ) → AreApart xs below → below ≤ e → Set xs i e p → slice_index (set xs i e) p < e + 1
low_in xs i e below p law high (inl a) = omega (arith, a.1)
low_in xs i e below p law high (inr a) = omega (arith, a, law.low p)

-- an extent that isn't below any
pub given : (xs : List ℕ) (i e below : ℕ) → AreApart xs below → below ≤ e → AreApart (set xs i e) (e + 1)
given xs i e below law high = record {
  alone = λ p q there is. alone_in xs i e below p q law high (set_cases xs i e p) (set_cases xs i e q) there is;
  low = λ p. low_in xs i e below p law high (set_cases xs i e p);
}

kept_in : (xs : List ℕ) (i e p : ℕ) → slice_index xs i ≡ 0 → Set xs i e p → HasExtent xs p → slice_index (set xs i e) p ≡ slice_index xs p
kept_in xs i e p none (inl a) there = absurd (let had : slice_index xs p ≡ 0 = ap (slice_index xs) a.0 ∙ none in omega (arith, had, there))
kept_in xs i e p none (inr a) there = a

pub given_keeps : (xs : List ℕ) (i e : ℕ) → slice_index xs i ≡ 0 → KeepsExtents xs (set xs i e)
given_keeps xs i e none = λ p there. kept_in xs i e p none (set_cases xs i e p) there

-- and it is one, since none is 0
pub given_there : (xs : List ℕ) (i e below : ℕ) → AreApart xs below → below ≤ e → i < length xs → HasExtent (set xs i e) i
given_there xs i e below law high within = subst (λ x. 0 < x) (sym (set_here xs i e within)) (omega (arith, law.low 0))
