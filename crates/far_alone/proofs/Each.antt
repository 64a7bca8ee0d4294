-- What holds of each member of a list.
use Rattle.std.proofs.Common.{◌≡◌, ℕ, zero, suc, ◌+◌, ◌<◌, subst, arith, List, [], ◌∷◌, ◌++◌, map}
use Rattle.std.specs.List.{AllByRecursion as Each, range_with_len}

-- of two lists put together
pub Each-append : {A : Type 0} (P : A → Type 0) (xs ys : List A) → Each P xs → Each P ys → Each P (xs ++ ys)
Each-append P [] ys a b = b
Each-append P (x ∷ xs) ys a b = (a.0, Each-append P xs ys a.1 b)

-- of a row by numbers
pub Each-row : {A : Type 0} (P : A → Type 0) (f : ℕ → A) (a n : ℕ) → ((i : ℕ) → i < n → P (f (a + i))) → Each P (map f (range_with_len a n))
Each-row P f a zero h = tt
Each-row P f a (suc n) h =
    let at : a + 0 ≡ a = omega arith in (
      subst (λ x. P (f x)) at (h 0 (omega arith)),
      Each-row P f (a + 1) n (λ i lt. let e : a + suc i ≡ a + 1 + i = omega arith in subst (λ x. P (f x)) e (h (suc i) (omega arith))),
    )
