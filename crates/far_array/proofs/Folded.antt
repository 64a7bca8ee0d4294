-- Folds, block by block.
use Rattle.std.proofs.Common.{◌≡◌, ℕ, ◌+◌, ◌-◌, ◌*◌, ◌/◌, ◌%◌, ◌<◌, ◌≤◌, min, Option, Some, None, List, [], ◌∷◌, ◌++◌, length, take, drop, get_or, map, sym, ◌∙◌, ap, subst, inl, inr, arith}
use Rattle.std.specs.List.{FoldsTo}
use Rattle.std.proofs.lemmas.List.{same_lists, length-take, length-drop, get_or-take, get_or-drop, length-map, get_or-map}
use Rattle.std.proofs.lemmas.List.FromFn.{length-map-range_with_len, get_or-map-range_with_len}
use Rattle.std.proofs.Math.Seq.{take-add}
use Rattle.std.specs.Prelude.{nat_lt, if◌then◌else◌}
use Rattle.std.proofs.lemmas.Nat.{le-div}
use Rattle.std.proofs.lemmas.Bool.{cases_lt}
use Rattle.std.proofs.lemmas.Bool.Decides.{nat_tests}
use Rattle.far_word.specs.declared.refused.Refused.{Refused}
use Rattle.far_word.specs.declared.refused.Refused.TheVariants.{Length, Range}
use Rattle.far_objects.specs.declared.objects.TheConstants.{MOST}
use Rattle.far_array.specs.Reasons.{barred_many}
use Rattle.far_array.specs.Rows.{Rows, many_at, per_block}
use Rattle.far_array.specs.Listed.{many_from, values_in}
use Rattle.far_array.proofs.Sizes.{many_low}

pub folds_on : {P A : Type 0} (R : P → A → P → Type 0) (p : P) (xs ys : List A) (q r : P) → FoldsTo R p xs q → FoldsTo R q ys r → FoldsTo R p (xs ++ ys) r
folds_on R p [] ys q r e f = subst (λ s. FoldsTo R s ys r) (sym e) f
folds_on R p (x ∷ xs) ys q r e f = (e.0, e.1, folds_on R e.0 xs ys q r e.2 f)

-- the values that a block's bytes are read as
pub block_is : {A : Type 0} (decoded : List ℕ → A) (items : List (List ℕ)) (size i n : ℕ) (bytes : List ℕ) → i + n ≤ length items →
    ((k : ℕ) → k < n → take size (drop (k * size) bytes) ≡ get_or items (i + k) []) → values_in decoded size n bytes ≡ take n (drop i (map decoded items))
block_is decoded items size i n bytes room each =
    let f = λ (k : ℕ). decoded (take size (drop (k * size) bytes)) in
    let ys = map decoded items in
    let long = length-map-range_with_len f 0 n in
    let all : length (take n (drop i ys)) ≡ n = omega (arith, length-take n (drop i ys), length-drop i ys, length-map items decoded, room) in
    same_lists (values_in decoded size n bytes) (take n (drop i ys)) (long ∙ sym all) (λ k d l.
    let low : k < n = omega (arith, l, long) in
    get_or-map-range_with_len f 0 n k k d low (omega arith)
    ∙ ap decoded (each k low)
    ∙ sym (get_or-take n (drop i ys) k d low ∙ get_or-drop i ys k d ∙ get_or-map decoded items (i + k) [] d (omega (arith, low, room))))

-- one block more
pub fold_more : {A : Type 0} {P : Type 0} (R : P → A → P → Type 0) (decoded : List ℕ → A) (items : List (List ℕ)) (size i n : ℕ) (bytes : List ℕ) (p q r : P) → i + n ≤ length items →
    ((k : ℕ) → k < n → take size (drop (k * size) bytes) ≡ get_or items (i + k) []) → FoldsTo R p (take i (map decoded items)) q → FoldsTo R q (values_in decoded size n bytes) r →
    FoldsTo R p (take (i + n) (map decoded items)) r
fold_more R decoded items size i n bytes p q r room each one two =
    subst (λ xs. FoldsTo R p xs r) (sym (take-add i n (map decoded items)))
    (folds_on R p (take i (map decoded items)) (take n (drop i (map decoded items))) q r one (subst (λ xs. FoldsTo R q xs r) (block_is decoded items size i n bytes room each) two))

-- how many are read at once
pub many_facts : (r : Rows) (i m n : ℕ) → 0 < r.size → r.size ≤ m → m ≤ MOST → i < length r.items → n ≡ many_at r i m → (0 < n) × (i + n ≤ length r.items) × (n * r.size ≤ m)
many_facts r i m n some fits most low e =
    let per : 1 ≤ per_block r.size = le-div 1 MOST r.size some (omega arith) in
    let facts = many_low m r.size (length r.items) i (per_block r.size) n some (omega (arith, per)) low fits e in
    (facts.0, facts.1, facts.3)

less_min : (p x q : ℕ) → min (min p x) (p - q) ≡ min x (p - q)
less_min p x q = omega arith

-- into as many bytes as an object has, all that stand in it are read
pub all_from : (r : Rows) (i m n : ℕ) → m ≡ MOST → n ≡ many_at r i m → n ≡ many_from r.size (length r.items) i
all_from r i m n full e =
    e ∙ ap (λ k. min (min (k / r.size) (length r.items - i)) (per_block r.size - i % per_block r.size)) full ∙ less_min (per_block r.size) (length r.items - i) (i % per_block r.size)

beyond_all : (len size i m : ℕ) → len ≤ i → ◌≡◌ {A = Option Refused} (if nat_lt i len then (if nat_lt m size then Some Length else None) else Some Range) (Some Range)
beyond_all len size i m e = grind (arith, nat_tests)

none_range : (o : Option Refused) → o ≡ None → o ≡ Some Range → ⊥
none_range o e f = cc

-- what may be read has a first one
pub first_there : (r : Rows) (i m : ℕ) → barred_many r i m ≡ None → i < length r.items
first_there r i m e = elim (cases_lt i (length r.items)) [
  | inl low ↦ low
  | inr past ↦ absurd (none_range (barred_many r i m) e (beyond_all (length r.items) r.size i m past))
]
