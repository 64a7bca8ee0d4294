-- A value is a piece of one block; what a write of one leaves of the others.
use Rattle.std.proofs.Common.{◌≡◌, ℕ, ◌+◌, ◌-◌, ◌≤◌, List, ◌++◌, length, take, drop, ◌∙◌, ap, arith, length-append, length-drop}
use Rattle.std.proofs.lemmas.List.{same_lists, places, drop-drop, length-take-le, drop-take, take-take}
use Rattle.far_objects.specs.Far.{with_range}

pub before_it : (was new : List ℕ) (o p size : ℕ) → o + length new ≤ length was → p + size ≤ o → take size (drop p (with_range was o new)) ≡ take size (drop p was)
before_it was new o p size within below =
    same_lists _ _ (search (arith, places)) (λ k d h. grind (arith, places))

pub after_it : (was new : List ℕ) (o p size : ℕ) → o + length new ≤ length was → o + length new ≤ p → take size (drop p (with_range was o new)) ≡ take size (drop p was)
after_it was new o p size within above =
    same_lists _ _ (search (arith, places)) (λ k d h. grind (arith, places))

-- within the piece it is a write of the piece
pub inside_it : (was new : List ℕ) (o from size : ℕ) → o + size ≤ length was → from + length new ≤ size → take size (drop o (with_range was (o + from) new)) ≡ with_range (take size (drop o was)) from new
inside_it was new o from size within inside =
    same_lists _ _ (search (arith, places)) (λ k d h. grind (arith, places))

-- a piece of a piece
pub piece_of : (xs : List ℕ) (b a m size : ℕ) → a + size ≤ m → take size (drop a (take m (drop b xs))) ≡ take size (drop (b + a) xs)
piece_of xs b a m size l =
    let e : m ≡ a + (m - a) = omega arith in
    ap (λ k. take size (drop a (take k (drop b xs)))) e ∙ ap (take size) (drop-take a (m - a) (drop b xs)) ∙ take-take size (m - a) (drop a (drop b xs)) (omega arith) ∙ ap (take size) (drop-drop a b xs)

-- a list with a range written over is as long
pub length_range : (was new : List ℕ) (o : ℕ) → o + length new ≤ length was → length (with_range was o new) ≡ length was
length_range was new o l =
    let all = length-append (take o was ++ new) (drop (o + length new) was) in
    let front = length-append (take o was) new in
    omega (arith, all, front, length-take-le o was (omega arith), length-drop (o + length new) was, l)
