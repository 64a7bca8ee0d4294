-- Bytes that come back from a slot.
use Rattle.std.proofs.Common.{◌≡◌, ◌∙◌, ◌<◌, ◌++◌, sym, subst, refl, ℕ, Bool, true, false, List, length, take, drop, Option, Some, IfSome, arith}
use Rattle.std.proofs.lemmas.List.{ext_get_or, take_all, take-append-le}
use Rattle.far_file.specs.Positions.{HoldsAt}

-- what holds of the bytes that are found
pub of_found : (found : Option (List ℕ)) (held : List ℕ) (P : List ℕ → Type 0) → found ≡ Some held → P held → IfSome found P
of_found found held P is so = subst (λ o. IfSome o P) (sym is) so

pub known_of : (found : Option (List ℕ)) (held : List ℕ) (P : List ℕ → Type 0) → found ≡ Some held → IfSome found P → P held
known_of found held P is so = subst (λ o. IfSome o P) is so

-- a buffer that was filled has the bytes that it was filled with
pub refilled : (n : ℕ) (old new : List ℕ) → length new ≡ n → take n (new ++ drop (length new) old) ≡ new
refilled n old new long = take-append-le n new (drop (length new) old) (omega arith) ∙ take_all n new (omega arith)

-- bytes that are read from a place are those that stand there
pub came_back : (seen : ℕ → ℕ) (at : ℕ) (got stored : List ℕ) → length got ≡ length stored → HoldsAt seen at got → HoldsAt seen at stored → got ≡ stored
came_back seen at got stored long gives stands = ext_get_or 0 got stored long (λ k below. let in_stored : k < length stored = omega arith in sym (gives k below) ∙ stands k in_stored)

-- a call that is told by as many bytes, and the same
pub told_by : (P : ℕ → List ℕ → Type 0) (m n : ℕ) (a b : List ℕ) → m ≡ n → a ≡ b → P m a → P n b
told_by P m n a b many same so = subst (λ bytes. P n bytes) same (subst (λ k. P k a) many so)

-- what can't be true is false
pub is_false : (b : Bool) → (b ≡ true → ⊥) → b ≡ false
is_false true never = absurd (never refl)
is_false false never = refl
