-- A whole object is read, and a long line part by part.
use Rattle.std.proofs.Common.{◌≡◌, ℕ, ◌+◌, ◌-◌, Bool, true, false, not, Some, Option, Result, Ok, Err, OnOk, List, ◌++◌, length, take, drop, inr, refl, sym, ◌∙◌, ap, subst, arith}
use Rattle.std.specs.Prelude.{IfSome}
use Rattle.std.proofs.lemmas.List.{drop_all, take_all, append-nil}
use Rattle.std.specs.Prelude.{IfOk}
use Rattle.std.specs.Bool.{Decides}
use Rattle.std.specs.Str.{bytes_eq}
use Rattle.std.proofs.lemmas.Slice.Eq.{bytes_eq-Decides}
use Rattle.std.proofs.Math.Seq.{take-add}
use Rattle.std.specs.Prelude.{IfErr, OnErr}
use Rattle.far_word.specs.declared.refused.Refused.{Refused as Refusal}
use Rattle.far_word.specs.declared.refused.Refused.TheVariants.{Damaged}
use Rattle.far_objects.specs.Far.{Far, Known}
use Rattle.far_seen.specs.Causes.{IsWhyUnread}

some_are : (b : Option (List ℕ)) (xs : List ℕ) (P : List ℕ → Type 0) → b ≡ Some xs → IfSome b P → P xs
some_are b xs P e p = subst (λ x. IfSome x P) e p

pub whole : (far : Far) (h n : ℕ) (before out now : List ℕ) → Known far → far.honest ≡ true → far.sizes h ≡ Some n → length before ≡ n → length out ≡ length before →
    IfSome (far.bytes h) (λ bytes. out ≡ take (length before) bytes) → now ≡ take n (out ++ drop (length out) before) → far.bytes h ≡ Some now
whole far h n before out now known o size long same read is =
    let k = (known h n size).known o in
    let e : out ≡ k.0 = some_are (far.bytes h) k.0 (λ bytes. out ≡ take (length before) bytes) k.1 read ∙ take_all (length before) k.0 (omega (arith, k.2, long)) in
    let f : now ≡ out = is ∙ ap (λ ys. take n (out ++ ys)) (drop_all (length out) before (omega (arith, same))) ∙ ap (take n) (append-nil out) ∙ take_all n out (omega (arith, same, long)) in
    k.1 ∙ ap (λ ys. Some ys) (sym (f ∙ e))

-- what a vector has that was read into
pub ranged : (n : ℕ) (before out now bytes : List ℕ) → length before ≡ n → length out ≡ length before → out ≡ take (length before) bytes → now ≡ take n (out ++ drop (length out) before) → now ≡ take n bytes
ranged n before out now bytes long same read is =
    is ∙ ap (λ ys. take n (out ++ ys)) (drop_all (length out) before (omega (arith, same))) ∙ ap (take n) (append-nil out) ∙ take_all n out (omega (arith, same, long))
    ∙ read ∙ ap (λ k. take k bytes) long

pub long_as : (n : ℕ) (before out now : List ℕ) → length before ≡ n → length out ≡ length before → now ≡ take n (out ++ drop (length out) before) → length now ≡ n
long_as n before out now long same is =
    let f : now ≡ out = is ∙ ap (λ ys. take n (out ++ ys)) (drop_all (length out) before (omega (arith, same))) ∙ ap (take n) (append-nil out) ∙ take_all n out (omega (arith, same, long)) in
    ap (λ (ys : List ℕ). length ys) f ∙ same ∙ long

-- ---- a long line, part by part
pub more_same : (done count : ℕ) (xs line : List ℕ) → take done xs ≡ take done line → take count (drop done xs) ≡ take count (drop done line) → take (done + count) xs ≡ take (done + count) line
more_same done count xs line before here = take-add done count xs ∙ (λ i. before i ++ here i) ∙ sym (take-add done count line)

not_not : (b : Bool) → false ≡ not b → b ≡ true
not_not true e = refl
not_not false e = absurd (cc)

-- a piece that was read, and compared with the line's
pub piece_is : (read piece : List ℕ) (done count : ℕ) (line : List ℕ) → read ≡ piece → false ≡ not (bytes_eq read (take (done + count - done) (drop done line))) → piece ≡ take count (drop done line)
piece_is read piece done count line is e =
    let back : done + count - done ≡ count = omega arith in
    sym is ∙ (bytes_eq-Decides read (take (done + count - done) (drop done line))).0 (not_not (bytes_eq read (take (done + count - done) (drop done line))) e) ∙ ap (λ n. take n (drop done line)) back

-- ---- what a number stands for
if_decides : {E : Type 0} (r : Result Bool E) (P Q : Type 0) → (P → Q) → (Q → P) → IfOk r (λ there. Decides there P) → IfOk r (λ there. Decides there Q)
if_decides (Ok there) P Q f g d = ((λ e. f (d.0 e)), (λ q. d.1 (g q)))
if_decides (Err e) P Q f g d = d

some_bytes : (xs ys : List ℕ) → ◌≡◌ {A = Option (List ℕ)} (Some xs) (Some ys) → xs ≡ ys
some_bytes xs ys e = cc

-- ---- what was read, and the tag of what was put
pub not_true : (b : Bool) → (b ≡ true → ⊥) → b ≡ false
not_true true f = absurd (f refl)
not_true false f = refl

-- it isn't what was put: the far side isn't honest
pub damaged_so : (unreached : Bool → Refusal → Type 0) (honest : Bool) (P : Type 0) (r : Result Bool Refusal) → (honest ≡ true → P) → IfErr r (λ why. (why ≡ Damaged) × (P → ⊥)) → IfErr r (IsWhyUnread unreached honest)
damaged_so unreached honest P (Ok there) f e = e
damaged_so unreached honest P (Err why) f e = inr (inr (e.0, not_true honest (λ o. e.1 (f o))))

-- an object was read
pub short_decides : {E : Type 0} (bytes : Option (List ℕ)) (read now line : List ℕ) (r : Result Bool E) → bytes ≡ Some now → read ≡ now → IfOk r (λ there. Decides there (read ≡ line)) → IfOk r (λ there. Decides there (bytes ≡ Some line))
short_decides bytes read now line r is same d =
    if_decides r (read ≡ line) (bytes ≡ Some line) (λ e. is ∙ ap (λ t. Some t) (sym same ∙ e)) (λ e. same ∙ some_bytes now line (sym is ∙ e)) d

-- a value was read whole
pub all_read : (n : ℕ) (xs read now : List ℕ) → n ≡ length xs → read ≡ now → now ≡ take n (drop 0 xs) → read ≡ xs
all_read n xs read now long same is = same ∙ is ∙ take_all n xs (omega (arith, long))

pub whole_decides : {E : Type 0} (xs read line : List ℕ) (r : Result Bool E) → read ≡ xs → IfOk r (λ there. Decides there (read ≡ line)) → IfOk r (λ there. Decides there (xs ≡ line))
whole_decides xs read line r same d = if_decides r (read ≡ line) (xs ≡ line) (λ e. sym same ∙ e) (λ e. same ∙ e) d

-- what was read is what a number stands for
pub on_ok : {A E : Type 0} (r : Result A E) (P Q : Type 0) → (P → Q) → OnOk r P → OnOk r Q
on_ok (Ok x) P Q f p = f p
on_ok (Err e) P Q f p = p

pub on_err : {A E : Type 0} (r : Result A E) (P Q : Type 0) → (P → Q) → OnErr r P → OnErr r Q
on_err (Ok x) P Q f p = p
on_err (Err e) P Q f p = f p

-- what is so, is so if it is the line
pub so_if : {E : Type 0} (r : Result Bool E) (P : Type 0) → P → IfOk r (λ there. there ≡ true → P)
so_if (Ok there) P p = λ e. p
so_if (Err e) P p = tt
