-- Parts of lists.
use Rattle.std.proofs.Common.{◌≡◌, ℕ, zero, suc, ◌+◌, ◌-◌, ◌<◌, ◌≤◌, List, [], ◌∷◌, ◌++◌, length, take, drop, get_or, map, ap, sym, ◌∙◌, arith, length-take-le, length-drop, length-append}
use Rattle.std.specs.Prelude.{slice_range}
use Rattle.std.proofs.lemmas.List.{get_or-take, get_or-drop}
use borrow.Rule.Slice.PartMut.{put_mid, post_of}

-- the rest of a list begins with the element at its index
pub drop_here : {X Y : Type 0} (f : X → Y) (xs : List X) (i : ℕ) (x : X) → i < length xs → x ≡ get_or xs i x → drop i (map f xs) ≡ f x ∷ drop (i + 1) (map f xs)
drop_here f [] i x lt e = absurd (omega arith)
drop_here f (y ∷ xs) zero x lt e = ap (λ z. f z ∷ map f xs) (sym e)
drop_here f (y ∷ xs) (suc i) x lt e = let there : suc (i + 1) ≡ suc i + 1 = omega arith in drop_here f xs i x (omega arith) e ∙ ap (λ n. f x ∷ drop n (f y ∷ map f xs)) there

-- a part of bytes, by what stands at each place
pub range_get : (xs : List ℕ) (from count k : ℕ) → k < count → get_or (slice_range xs from (from + count)) k 0 ≡ get_or xs (from + k) 0
range_get xs from count k lt = get_or-take (from + count - from) (drop from xs) k 0 (omega arith) ∙ get_or-drop from xs k 0

-- new bytes in a buffer keep its length
pub put_length : (a k : ℕ) (xs ys : List ℕ) → a + k ≤ length xs → length ys ≡ k → length (put_mid a k xs ys) ≡ length xs
put_length a k xs ys fits same = omega (arith, length-append (take a xs) (ys ++ post_of a k xs), length-append ys (post_of a k xs), length-take-le a xs (omega arith), length-drop k (drop a xs), length-drop a xs)
