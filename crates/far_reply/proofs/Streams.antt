-- One more read or write.
use Rattle.std.proofs.Common.{◌≡◌, ℕ, ◌≤◌, ◌+◌, ◌-◌, List, ◌++◌, Result, Ok, Err, length, take, drop, Option, sym, ◌∙◌, ap, refl, arith, subst, append_assoc, append-nil, []}
use Rattle.std.specs.Io.KnownBytes.{Appends, Consumes}
use Rattle.std.proofs.KnownBytes.{Appends-trans, Consumes-trans}
use Rattle.std.proofs.Math.Seq.{take-add, take-append-add, take-length}
use Rattle.std.proofs.Common.{length-drop, length-take, length-take-le, length-append}
use Rattle.std.proofs.lemmas.List.{take-append-le}
use Rattle.far_reply.specs.Stream.{AppendsPart, Writes, Holds}
use Rattle.std.proofs.lemmas.List.{take-take, take_all, with_items_is}
use Rattle.std.specs.Vec.{with_items}
use Rattle.std.specs.declared.vec.Vec.{Vec}
use borrow.Rule.Slice.PartMut.{put_mid, post_of}

pub wrote_more : (a b c : Option (List ℕ)) (bs : List ℕ) (d n : ℕ) → Appends a b (take d bs) → Appends b c (take n (take (length bs - d) (drop d bs))) → Appends a c (take (d + n) bs)
wrote_more a b c bs d n first second =
    let rest : take (length bs - d) (drop d bs) ≡ drop d bs = ap (λ m. take m (drop d bs)) (sym (length-drop d bs)) ∙ take-length (drop d bs) in
    let both : take d bs ++ take n (take (length bs - d) (drop d bs)) ≡ take (d + n) bs = ap (λ l. take d bs ++ take n l) rest ∙ sym (take-add d n bs) in
    subst (Appends a c) both (Appends-trans a b c (take d bs) (take n (take (length bs - d) (drop d bs))) first second)

-- a buffer that a read was given from a on
read_into : (a k n : ℕ) (xs ys : List ℕ) → a ≤ length xs → n ≤ length ys → take (a + n) (put_mid a k xs ys) ≡ take a xs ++ take n ys
read_into a k n xs ys h m =
    let long : length (take a xs) ≡ a = length-take-le a xs h in
    let seam : take (length (take a xs) + n) (take a xs ++ (ys ++ post_of a k xs)) ≡ take a xs ++ take n (ys ++ post_of a k xs) = take-append-add (take a xs) (ys ++ post_of a k xs) n in
    let same : take (a + n) (put_mid a k xs ys) ≡ take (length (take a xs) + n) (put_mid a k xs ys) = ap (λ m. take (m + n) (put_mid a k xs ys)) (sym long) in
    same ∙ seam ∙ ap (λ l. take a xs ++ l) (take-append-le n ys (post_of a k xs) m)

pub read_more : (x y z : Option (List ℕ)) (a k n : ℕ) (room buf : List ℕ) → a ≤ length room → n ≤ length buf → Consumes x y (take a room) → Consumes y z (take n buf) → Consumes x z (take (a + n) (put_mid a k room buf))
read_more x y z a k n room buf h m first second = subst (Consumes x z) (sym (read_into a k n room buf h m)) (Consumes-trans x y z (take a room) (take n buf) first second)

-- the same of a buffer that was made larger before the read
pub read_grown : {Z : Type 0} (v : Vec ℕ Z) (x y z : Option (List ℕ)) (a n : ℕ) (old xs buf : List ℕ) → xs ≡ v.items → take (length old) v.items ≡ old → a ≤ length old
    → a ≤ length v.items → length buf ≡ length xs - a → n ≤ length buf → Consumes x y (take a old) → Consumes y z (take n buf) → Consumes x z (take (a + n) (with_items v (put_mid a (length xs - a) xs buf)).items)
read_grown v x y z a n old xs buf same kept inside fits size bound first second =
    let room : length xs ≡ length v.items = ap length same in
    let front : take a old ≡ take a xs = ap (take a) (sym kept) ∙ take-take a (length old) v.items inside ∙ ap (take a) (sym same) in
    let long : length (put_mid a (length xs - a) xs buf) ≡ v.len = put_len a (length xs - a) xs buf (omega arith) size ∙ room ∙ sym v.ok.0 in
    subst (λ ys. Consumes x z (take (a + n) ys)) (sym (with_items_is v (put_mid a (length xs - a) xs buf) long))
    (read_more x y z a (length xs - a) n xs buf (omega arith) bound (subst (Consumes x y) front first) second) where
      put_len : (b k : ℕ) (us vs : List ℕ) → b + k ≤ length us → length vs ≡ k → length (put_mid b k us vs) ≡ length us
      put_len b k us vs h e = omega (arith, length-append (take b us) (vs ++ post_of b k us), length-append vs (post_of b k us), length-take-le b us (omega arith), length-drop k (drop b us), length-drop b us)

-- what was there stays, as more comes behind it
pub kept_after : (first now new tail : List ℕ) (m n : ℕ) → take m now ≡ first → new ≡ take n now ++ tail → m ≤ length now → length now ≤ n → take m new ≡ first
kept_after first now new tail m n before is inside whole =
    let all : take n now ≡ now = take_all n now whole in
    ap (take m) (is ∙ ap (λ l. l ++ tail) all) ∙ take-append-le m now tail inside ∙ before

pub write_fits : (d n : ℕ) (bs : List ℕ) → d ≤ length bs → n ≤ length (take (length bs - d) (drop d bs)) → d + n ≤ length bs
write_fits d n bs h m = omega (arith, length-take (length bs - d) (drop d bs), length-drop d bs)

-- more bytes behind a part leave it one
front_longer : (a b : Option (List ℕ)) (xs ys : List ℕ) → AppendsPart a b xs → AppendsPart a b (xs ++ ys)
front_longer a b xs ys f =
    let same : take f.0 xs ≡ take f.0 (xs ++ ys) = sym (take-append-le f.0 xs ys (omega (arith, f.1))) in
    (f.0, omega (arith, f.1, length-append xs ys), subst (Appends a b) same f.2)

front_after : (a b c : Option (List ℕ)) (xs ys : List ℕ) → Appends a b xs → AppendsPart b c ys → AppendsPart a c (xs ++ ys)
front_after a b c xs ys h f =
    (length xs + f.0, omega (arith, f.1, length-append xs ys), subst (Appends a c) (sym (take-append-add xs ys f.0)) (Appends-trans a b c xs (take f.0 ys) h f.2))

-- what waited is written
pub held_written : {A E : Type 0} (start old now : Option (List ℕ)) (waiting bytes : List ℕ) (earlier result : Result A E) → ((d : E) → earlier ≡ Err d → ⊥) → Writes old now result waiting → Holds start old waiting earlier bytes → Holds start now [] result bytes
held_written start old now waiting bytes (Ok v) (Ok w) none h k = (k.0 ++ waiting, Appends-trans start old now k.0 waiting k.1 h, append-nil (k.0 ++ waiting) ∙ k.2)
held_written start old now waiting bytes (Ok v) (Err d) none h k = let f = front_after start old now k.0 waiting k.1 h in subst (λ l. AppendsPart start now l) k.2 f
held_written start old now waiting bytes (Err d) result none h k = absurd (none d refl)

-- one more piece waits
pub held_more : {A E : Type 0} (start now : Option (List ℕ)) (waiting piece bytes : List ℕ) (result : Result A E) → Holds start now waiting result bytes → Holds start now (waiting ++ piece) result (bytes ++ piece)
held_more start now waiting piece bytes (Ok v) k = (k.0, k.1, sym (append_assoc k.0 waiting piece) ∙ ap (λ l. l ++ piece) k.2)
held_more start now waiting piece bytes (Err d) k = front_longer start now bytes piece k

-- where nothing waits, the bytes are written
pub held_all : {A E : Type 0} (start now : Option (List ℕ)) (waiting bytes : List ℕ) (result : Result A E) → waiting ≡ [] → Holds start now waiting result bytes → Writes start now result bytes
held_all start now waiting bytes (Ok v) e k = subst (Appends start now) (sym (append-nil k.0) ∙ ap (λ l. k.0 ++ l) (sym e) ∙ k.2) k.1
held_all start now waiting bytes (Err d) e k = k
