-- Bytes that are inverted one after another.
use Rattle.std.proofs.Common.{◌≡◌, ℕ, zero, suc, ◌<◌, ◌≤◌, List, [], ◌∷◌, length, get_or, set, map, refl, ap, arith}
use Rattle.far_device.specs.Liar.{inverted}

-- the first n are inverted
pub inverted_to : ℕ → List ℕ → List ℕ
inverted_to zero bytes = bytes
inverted_to (suc n) [] = []
inverted_to (suc n) (byte ∷ bytes) = inverted byte ∷ inverted_to n bytes

pub inverted_none : (bytes : List ℕ) → inverted_to 0 bytes ≡ bytes
unfolding inverted_to
inverted_none bytes = refl

-- one more
pub inverted_next : (n : ℕ) (bytes : List ℕ) → n < length bytes → set (inverted_to n bytes) n (inverted (get_or (inverted_to n bytes) n 0)) ≡ inverted_to (suc n) bytes
unfolding inverted_to
inverted_next n [] lt = absurd (omega arith)
inverted_next zero (byte ∷ bytes) lt = refl
inverted_next (suc n) (byte ∷ bytes) lt = ap (λ rest. inverted byte ∷ rest) (inverted_next n bytes (omega arith))

-- all, once none is left
pub inverted_all : (n : ℕ) (bytes : List ℕ) → length bytes ≤ n → inverted_to n bytes ≡ map inverted bytes
unfolding inverted_to
inverted_all zero [] le = refl
inverted_all zero (byte ∷ bytes) le = absurd (omega arith)
inverted_all (suc n) [] le = refl
inverted_all (suc n) (byte ∷ bytes) le = ap (λ rest. inverted byte ∷ rest) (inverted_all n bytes (omega arith))
