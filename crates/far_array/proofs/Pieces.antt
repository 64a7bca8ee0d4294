-- A record is a piece of one object; what a write of one leaves of the others.
use Rattle.std.proofs.Common.{◌≡◌, ℕ, ◌+◌, ◌-◌, ◌*◌, ◌<◌, ◌≤◌, List, ◌++◌, length, take, drop, ◌∙◌, ap, arith}
use Rattle.std.proofs.lemmas.List.{same_lists, take_at, drop_at, places, drop-append-le, take-append-le, drop-drop, append_assoc, length-append, length-drop, length-take-le, drop-take, take-take}
use Rattle.std.proofs.Math.Nat.{mul-le-mul_right}
use Rattle.far_objects.specs.Far.{with_range}

pub at_itself : (was new : List ℕ) (o size : ℕ) → o ≤ length was → length new ≡ size → take size (drop o (with_range was o new)) ≡ new
at_itself was new o size low long =
    let e : length (take o was) ≡ o = length-take-le o was low in
    ap (take size) (ap (drop o) (append_assoc (take o was) new (drop (o + length new) was)) ∙ drop_at (take o was) (new ++ drop (o + length new) was) o e)
    ∙ take_at new (drop (o + length new) was) size long

pub before_it : (was new : List ℕ) (o p size : ℕ) → o + length new ≤ length was → p + size ≤ o → take size (drop p (with_range was o new)) ≡ take size (drop p was)
before_it was new o p size within below =
    same_lists _ _ (search (arith, places)) (λ k d h. grind (arith, places))

pub after_it : (was new : List ℕ) (o p size : ℕ) → o + length new ≤ length was → o + length new ≤ p → take size (drop p (with_range was o new)) ≡ take size (drop p was)
after_it was new o p size within above =
    same_lists _ _ (search (arith, places)) (λ k d h. grind (arith, places))

pub step_below : (a b size : ℕ) → a < b → a * size + size ≤ b * size
step_below a b size l = let m : (a + 1) * size ≤ b * size = mul-le-mul_right size (omega arith) in omega (arith, m)

-- a piece of a piece
pub piece_of : (xs : List ℕ) (b a m size : ℕ) → a + size ≤ m → take size (drop a (take m (drop b xs))) ≡ take size (drop (b + a) xs)
piece_of xs b a m size l =
    let e : m ≡ a + (m - a) = omega arith in
    ap (λ k. take size (drop a (take k (drop b xs)))) e ∙ ap (take size) (drop-take a (m - a) (drop b xs)) ∙ take-take size (m - a) (drop a (drop b xs)) (omega arith) ∙ ap (take size) (drop-drop a b xs)

-- a list with a range written over is as long
pub length_range : (was new : List ℕ) (o : ℕ) → o + length new ≤ length was → length (with_range was o new) ≡ length was
length_range was new o l =
    let all = length-append (take o was ++ new) (drop (o + length new) was) in
    let front = length-append (take o was) new in
    omega (arith, all, front, length-take-le o was (omega arith), length-drop (o + length new) was, l)

-- the front of what was read
pub front_piece : (xs ys : List ℕ) (a size : ℕ) → a + size ≤ length xs → take size (drop a (xs ++ ys)) ≡ take size (drop a xs)
front_piece xs ys a size l =
    ap (take size) (drop-append-le a xs ys (omega arith)) ∙ take-append-le size (drop a xs) ys (omega (arith, length-drop a xs))
