-- Words that are 0.
use Rattle.std.proofs.Common.{◌≡◌, ◌≢◌, ℕ, ◌+◌, ◌<◌, true, false, arith, nat_eq, zero, suc, inl, inr, ap, ◌∙◌, refl}
use Rattle.std.proofs.lemmas.Bool.Decides.{nat_tests}
use Rattle.std.proofs.lemmas.Bool.{cases_eq, ne_eqb, eq-eqb, and_right, and_left}
use Rattle.far_events.specs.events.Step.{zeros}

pub zeros_not : (f : ℕ → ℕ) (a n k : ℕ) → k < n → f (a + k) ≢ 0 → zeros f a n ≡ false
zeros_not f a zero k lt ne = absurd (omega arith)
zeros_not f a (suc n) k lt ne = elim (cases_eq k n) [
  | inl e ↦ and_right _ _ (ne_eqb (f (a + n)) 0 (λ h. ne (rw e h)))
  | inr other ↦ and_left _ _ (zeros_not f a n k (omega arith) ne)
]

pub zeros_below : (f : ℕ → ℕ) (a n i : ℕ) → zeros f a n ≡ true → i < n → f (a + i) ≡ 0
zeros_below f a zero i h lt = omega arith
zeros_below f a (suc n) i h lt = elim (cases_eq i n) [
  | inl e ↦ (let here : f (a + n) ≡ 0 = grind (arith, nat_tests) in ap (λ k. f (a + k)) e ∙ here)
  | inr ne ↦ zeros_below f a n i (grind (arith, nat_tests)) (omega arith)
]

pub zeros_all : (f : ℕ → ℕ) (a n : ℕ) → ((i : ℕ) → i < n → f (a + i) ≡ 0) → zeros f a n ≡ true
zeros_all f a zero h = refl
zeros_all f a (suc n) h =
    let before : zeros f a n ≡ true = zeros_all f a n (λ i lt. h i (omega arith)) in
    let here : nat_eq (f (a + n)) 0 ≡ true = eq-eqb (f (a + n)) 0 (h n (omega arith)) in
    rw (before, here) refl
