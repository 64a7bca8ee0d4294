-- Members of a list by their places, as a table's views have them.
use Rattle.std.proofs.Common.{◌≡◌, ℕ, zero, suc, ◌<◌, List, [], ◌∷◌, ◌++◌, length, get_or, set, sym, refl, ap, arith}
use mathlib.Core.Option.{some, some-injective, some-ne-none}
use lib.ListN.{get_elem?}

module _ {A : Type 0} where
  -- a change among the first members
  pub set_before : (l m : List A) (i : ℕ) (x a : A) → get_elem? l i ≡ some a → set (l ++ m) i x ≡ set l i x ++ m
  set_before [] m i x a e = absurd (some-ne-none a (sym e))
  set_before (y ∷ ys) m zero x a e = refl
  set_before (y ∷ ys) m (suc i) x a e = ap (λ l. y ∷ l) (set_before ys m i x a e)

  pub below : (l : List A) (i : ℕ) (a : A) → get_elem? l i ≡ some a → i < length l
  below [] i a e = absurd (some-ne-none a (sym e))
  below (x ∷ xs) zero a e = omega arith
  below (x ∷ xs) (suc i) a e = let t = below xs i a e in omega arith

  pub get_is : (l : List A) (i : ℕ) (a d : A) → get_elem? l i ≡ some a → get_or l i d ≡ a
  get_is [] i a d e = absurd (some-ne-none a (sym e))
  get_is (x ∷ xs) zero a d e = some-injective x a e
  get_is (x ∷ xs) (suc i) a d e = get_is xs i a d e

  pub one_there : (l : List A) (i : ℕ) → i < length l → (a : A) × (get_elem? l i ≡ some a)
  one_there [] i lt = absurd (omega (arith, lt))
  one_there (x ∷ xs) zero lt = (x, refl)
  one_there (x ∷ xs) (suc i) lt = one_there xs i (omega (arith, lt))
