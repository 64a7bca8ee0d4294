-- What was read into the first bytes of a buffer.
use Rattle.std.proofs.Common.{◌≡◌, ℕ, zero, suc, ◌≤◌, true, Option, Some, Result, Ok, Err, OnOk, List, [], ◌∷◌, ◌++◌, length, take, drop, refl, sym, ◌∙◌, ap, subst, arith}
use Rattle.std.specs.Prelude.{IfSome}
use Rattle.std.proofs.lemmas.List.{take-append-le, take_at, take_all}
use Rattle.far_word.specs.declared.refused.Refused.{Refused}
use Rattle.far_objects.specs.Far.{Far, Known}
use borrow.Rule.Slice.PartMut.{put_mid, post_of}

take_take : (n m : ℕ) (xs : List ℕ) → n ≤ m → take n (take m xs) ≡ take n xs
take_take zero m xs le = refl
take_take (suc n) zero xs le = absurd (omega (arith, le))
take_take (suc n) (suc m) [] le = refl
take_take (suc n) (suc m) (x ∷ xs) le = ap (λ ys. x ∷ ys) (take_take n m xs (omega (arith, le)))

some_are : (b : Option (List ℕ)) (xs : List ℕ) (P : List ℕ → Type 0) → b ≡ Some xs → IfSome b P → P xs
some_are b xs P e p = subst (λ x. IfSome x P) e p

on_ok : (r : Result (Unit {0}) Refused) (P Q : Type 0) → (P → Q) → OnOk r P → OnOk r Q
on_ok (Ok u) P Q f p = f p
on_ok (Err e) P Q f p = p

-- what an honest read put into the first bytes
pub front_read : (far : Far) (number len k : ℕ) (r : Result (Unit {0}) Refused) (held out old : List ℕ) → Known far → far.sizes number ≡ Some len → far.honest ≡ true →
    length out ≡ len → length out ≡ length old → OnOk r (IfSome (far.bytes number) (λ bytes. out ≡ take (length old) (drop 0 bytes))) →
    OnOk r (far.bytes number ≡ Some (take len (put_mid 0 k held out)))
front_read far number len k r held out old known size o long same read =
    let w = (known number len size).known o in
    on_ok r (IfSome (far.bytes number) (λ bytes. out ≡ take (length old) (drop 0 bytes))) (far.bytes number ≡ Some (take len (put_mid 0 k held out))) (λ p.
    let e : out ≡ w.0 = some_are (far.bytes number) w.0 (λ bytes. out ≡ take (length old) (drop 0 bytes)) w.1 p ∙ take_all (length old) w.0 (omega (arith, w.2, long, same)) in
    w.1 ∙ ap (λ xs. Some xs) (sym (take_at out (post_of 0 k held) len long ∙ e))) read

-- the same of a buffer that is longer
pub kept_front : (r : Result (Unit {0}) Refused) (b : Option (List ℕ)) (len most : ℕ) (buffer after : List ℕ) → len ≤ most → len ≤ length buffer →
    OnOk r (b ≡ Some (take len buffer)) → OnOk r (b ≡ Some (take len (take most (buffer ++ after))))
kept_front r b len most buffer after le within =
    on_ok r (b ≡ Some (take len buffer)) (b ≡ Some (take len (take most (buffer ++ after)))) (λ p.
    p ∙ ap (λ xs. Some xs) (sym (take_take len most (buffer ++ after) le ∙ take-append-le len buffer after within)))
