-- The records as a list.
use Rattle.std.proofs.Common.{◌≡◌, ℕ, ◌+◌, ◌*◌, ◌<◌, ◌≤◌, true, List, [], ◌∷◌, ◌++◌, length, take, get_or, set, sym, ◌∙◌, ap, inl, inr, arith, length-set, get_or-set_same, get_or-set_other}
use Rattle.std.proofs.lemmas.Bool.{cases_eq}
use Rattle.std.proofs.lemmas.List.{same_lists}
use Rattle.std.proofs.lemmas.List.FromFn.{length-map-range_with_len, get_or-map-range_with_len, take-map-range_with_len, map-range_with_len_more}
use Rattle.far_objects.specs.Far.{Far}
use Rattle.far_array.specs.Rows.{row, rows}
use Rattle.far_array.specs.Places.{Kept, Wrote}

pub len_of_rows : (f : Far) (hs : List ℕ) (per size len : ℕ) → length (rows f hs per size len) ≡ len
len_of_rows f hs per size len = length-map-range_with_len (row f hs per size) 0 len

pub at_row : (f : Far) (hs : List ℕ) (per size len i : ℕ) (d : List ℕ) → i < len → get_or (rows f hs per size len) i d ≡ row f hs per size i
at_row f hs per size len i d l = get_or-map-range_with_len (row f hs per size) 0 len i i d l (omega arith)

pub same_rows : (f g : Far) (hs gs : List ℕ) (per size len : ℕ) → ((k : ℕ) → k < len → row g gs per size k ≡ row f hs per size k) → rows g gs per size len ≡ rows f hs per size len
same_rows f g hs gs per size len same =
    let n = len_of_rows g gs per size len in
    let m = len_of_rows f hs per size len in
    same_lists (rows g gs per size len) (rows f hs per size len) (n ∙ sym m) (λ k d l.
    let k_low : k < len = omega (arith, n, l) in
    at_row g gs per size len k d k_low ∙ same k k_low ∙ sym (at_row f hs per size len k d k_low))

pub set_rows : (i : ℕ) (bytes : List ℕ) (f g : Far) (hs gs : List ℕ) (per size len : ℕ) → i < len → len ≤ per * length hs → f.honest ≡ true → Wrote i bytes f g hs gs per size →
    rows g gs per size len ≡ set (rows f hs per size len) i bytes
set_rows i bytes f g hs gs per size len low room o w =
    let xs = rows f hs per size len in
    let n = len_of_rows g gs per size len in
    let m = len_of_rows f hs per size len in
    same_lists (rows g gs per size len) (set xs i bytes) (n ∙ sym (length-set xs i bytes ∙ m)) (λ k d l.
    let k_low : k < len = omega (arith, n, l) in
    at_row g gs per size len k d k_low
    ∙ elim (cases_eq k i) [
      | inl e ↦ ap (row g gs per size) e ∙ w.itself o ∙ sym (ap (λ j. get_or (set xs i bytes) j d) e ∙ get_or-set_same xs i bytes d (omega (arith, m, low)))
      | inr ne ↦ w.others o k ne (omega (arith, k_low, room)) ∙ sym (get_or-set_other xs i k bytes d ne ∙ at_row f hs per size len k d k_low)
    ])

pub push_rows : (bytes : List ℕ) (f g : Far) (hs gs : List ℕ) (per size len : ℕ) → len ≤ per * length hs → f.honest ≡ true → Wrote len bytes f g hs gs per size →
    rows g gs per size (len + 1) ≡ rows f hs per size len ++ bytes ∷ []
push_rows bytes f g hs gs per size len room o w =
    map-range_with_len_more (row g gs per size) 0 len len (omega arith)
    ∙ (λ i. same_rows f g hs gs per size len (λ k l. w.others o k (λ e. not_less k len l e) (omega (arith, l, room))) i ++ w.itself o i ∷ [])
  where
    not_less : (k n : ℕ) → k < n → k ≡ n → ⊥
    not_less k n l e = omega (arith, l, e)

pub cut_rows : (f : Far) (hs : List ℕ) (per size len n : ℕ) → n ≤ len → rows f hs per size n ≡ take n (rows f hs per size len)
cut_rows f hs per size len n l = sym (take-map-range_with_len (row f hs per size) 0 len n l)

pub kept_rows : (f g : Far) (hs gs : List ℕ) (per size len : ℕ) → len ≤ per * length gs → Kept f g hs gs per size → rows g gs per size len ≡ rows f hs per size len
kept_rows f g hs gs per size len room kept = same_rows f g hs gs per size len (λ k l. kept.rows k (omega (arith, l, room)))
