-- What writes and reads come to, one after the other.
use Rattle.std.proofs.Common.{◌≡◌, ℕ, ◌+◌, ◌≤◌, Option, Some, None, Result, Ok, Err, OnOk, OnErr, List, ◌++◌, length, take, drop, sym, ◌∙◌, subst, arith}
use Rattle.std.specs.Io.KnownBytes.{Appends, Keeps}
use Rattle.std.proofs.KnownBytes.{Appends-trans}
use Rattle.std.proofs.lemmas.List.{take_all, take-take, take-append-drop, drop-take}

pub keeps_appends : (a b c : Option (List ℕ)) (x : List ℕ) → Appends a b x → Keeps b c → Appends a c x
keeps_appends None b c x p q = tt
keeps_appends (Some xs) None c x p q = absurd p
keeps_appends (Some xs) (Some ys) None x p q = absurd q
keeps_appends (Some xs) (Some ys) (Some zs) x p q = q ∙ p

-- all is written
pub part_all : (a b c : Option (List ℕ)) (bytes : List ℕ) (done : ℕ) → length bytes ≤ done → Appends a b (take done bytes) → Keeps b c → Appends a c bytes
part_all a b c bytes done all p q = keeps_appends a b c bytes (subst (Appends a b) (take_all done bytes all) p) q

-- no more is
pub part_only : (a b c : Option (List ℕ)) (bytes : List ℕ) (done : ℕ) → Appends a b (take done bytes) → Keeps b c → (k : ℕ) × Appends a c (take k bytes)
part_only a b c bytes done p q = (done, keeps_appends a b c (take done bytes) p q)

-- more is
pub part_more : (a b c : Option (List ℕ)) (bytes : List ℕ) (done n : ℕ) → Appends a b (take done bytes) → Appends b c (take n (drop done bytes)) → Appends a c (take (done + n) bytes)
part_more a b c bytes done n p q =
    let e : take done bytes ++ take n (drop done bytes) ≡ take (done + n) bytes =
    (λ i. sym (take-take done (done + n) bytes (omega arith)) i ++ sym (drop-take done n bytes) i)
    ∙ take-append-drop done (take (done + n) bytes) in
    subst (Appends a c) e (Appends-trans a b c (take done bytes) (take n (drop done bytes)) p q)

-- ---- whatever the answer
pub any_ok : {A E : Type 0} (r : Result A E) (P : Type 0) → P → OnOk r P
any_ok (Ok x) P p = p
any_ok (Err e) P p = tt

pub any_err : {A E : Type 0} (r : Result A E) (P : Type 0) → P → OnErr r P
any_err (Ok x) P p = tt
any_err (Err e) P p = p
