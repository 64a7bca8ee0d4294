-- Words of which some are those of a row.
use Rattle.std.proofs.Common.{◌≢◌, ◌≡◌, ℕ, suc, ◌+◌, ◌-◌, ◌*◌, ◌/◌, ◌<◌, ◌≤◌, ◌⊎◌, true, false, cond, ◌&&◌, nat_lt, nat_le, refl, sym, ap, ◌∙◌, subst, arith, inl, inr, List, ◌++◌, length, take, drop, get_or}
use Rattle.std.specs.Prelude.{◌==◌, replicate}
use Rattle.std.proofs.lemmas.List.{get_or-append_right, get_or_append_left, get_or-replicate, get_or-take, get_or-drop, length-drop, length-replicate, length-take-le, length-append, with_items_is}
use Rattle.std.specs.Vec.{with_items}
use Rattle.std.specs.declared.vec.Vec.{Vec}
use borrow.Rule.Slice.PartMut.{put_mid, post_of, mid_of}
use Rattle.std.proofs.lemmas.Bool.{cases_lt, cases_eq, eq-eqb, ne_eqb}
use Rattle.std.proofs.lemmas.Bool.Decides.{nat_tests}
use Rattle.std.proofs.lemmas.Nat.{div-mul-add}
use Rattle.std.proofs.Math.Nat.{div-mul-le_self, lt-div-mul-add}
use mathlib.Core.Path.{fun_ext}
use Rattle.far_events.specs.state.State.{put}
use Rattle.far_events.proofs.Begins.{row_of}
use Rattle.far_events.proofs.Put.{put_both, put_same, put_other}
use Rattle.far_events.specs.events.Ranges.{with_row}

-- a word of the row
pub row_in : (word : ℕ → ℕ) (a n : ℕ) (row : ℕ → ℕ) (k : ℕ) → a ≤ k → k < a + n → with_row word a n row k ≡ row (k - a)
row_in word a n row k low high = ap (λ b. cond b (row (k - a)) (word k)) inside where
  inside : (nat_le a k && nat_lt k (a + n)) ≡ true
  inside = grind (arith, nat_tests)

-- a word outside it
pub row_out : (word : ℕ → ℕ) (a n : ℕ) (row : ℕ → ℕ) (k : ℕ) → (k < a) ⊎ (a + n ≤ k) → with_row word a n row k ≡ word k
row_out word a n row k out = ap (λ b. cond b (row (k - a)) (word k)) (outside out) where
  outside : (k < a) ⊎ (a + n ≤ k) → (nat_le a k && nat_lt k (a + n)) ≡ false
  outside (inl low) = grind (arith, nat_tests)
  outside (inr high) = grind (arith, nat_tests)

-- what is so of each word in the row, and of each outside
pub row_is : (word f : ℕ → ℕ) (a n : ℕ) (row : ℕ → ℕ) → ((k : ℕ) → a ≤ k → k < a + n → f k ≡ row (k - a)) → ((k : ℕ) → (k < a) ⊎ (a + n ≤ k) → f k ≡ word k) → f ≡ with_row word a n row
row_is word f a n row inside outside = fun_ext (λ k. elim (cases_lt k a) [
  | inl low ↦ outside k (inl low) ∙ sym (row_out word a n row k (inl low))
  | inr le ↦ elim (cases_lt k (a + n)) [
    | inl lt ↦ inside k le lt ∙ sym (row_in word a n row k le lt)
    | inr high ↦ outside k (inr high) ∙ sym (row_out word a n row k (inr high))
  ]
])

-- a row of none
pub row_none : (word : ℕ → ℕ) (a : ℕ) (row : ℕ → ℕ) → word ≡ with_row word a 0 row
row_none word a row = row_is word word a 0 row (λ k low high. absurd (omega arith)) (λ k out. refl)

-- rows of the same words
pub row_same : (word : ℕ → ℕ) (a n : ℕ) (f g : ℕ → ℕ) → ((k : ℕ) → k < n → f k ≡ g k) → with_row word a n f ≡ with_row word a n g
row_same word a n f g same = row_is word (with_row word a n f) a n g
    (λ k low high. row_in word a n f k low high ∙ same (k - a) (omega arith)) (λ k out. row_out word a n f k out)

-- a row is its first word, and the row behind it
pub row_first : (word : ℕ → ℕ) (a n x : ℕ) (row : ℕ → ℕ) → x ≡ row 0 → with_row (put word a x) (a + 1) n (λ i. row (i + 1)) ≡ with_row word a (suc n) row
row_first word a n x row e = row_is word (with_row (put word a x) (a + 1) n (λ i. row (i + 1))) a (suc n) row
    (λ k low high. elim (cases_eq k a) [
      | inl here ↦ (let at : 0 ≡ k - a = omega arith in
          row_out (put word a x) (a + 1) n (λ i. row (i + 1)) k (inl (omega arith)) ∙ put_same word a x k here ∙ e ∙ ap row at)
      | inr ne ↦ (let at : k - (a + 1) + 1 ≡ k - a = omega arith in
          row_in (put word a x) (a + 1) n (λ i. row (i + 1)) k (omega arith) (omega arith) ∙ ap row at)
    ])
    (λ k out. row_out (put word a x) (a + 1) n (λ i. row (i + 1)) k (behind k out) ∙ put_other word a x k (λ h. apart k out h)) where
      behind : (k : ℕ) → (k < a) ⊎ (a + suc n ≤ k) → (k < a + 1) ⊎ (a + 1 + n ≤ k)
      behind k (inl low) = inl (omega arith)
      behind k (inr high) = inr (omega arith)

      apart : (k : ℕ) → (k < a) ⊎ (a + suc n ≤ k) → k ≢ a
      apart k (inl low) h = omega arith
      apart k (inr high) h = omega arith

-- a row is the row before its last word, and that
pub row_last : (word : ℕ → ℕ) (a n : ℕ) (row : ℕ → ℕ) (at x : ℕ) → at ≡ a + n → x ≡ row n → put (with_row word a n row) at x ≡ with_row word a (n + 1) row
row_last word a n row at x here is = row_is word (put (with_row word a n row) at x) a (n + 1) row
    (λ k low high. put_both (λ y. y ≡ row (k - a)) (with_row word a n row) at x k
    (λ e. let same : n ≡ k - a = omega arith in is ∙ ap row same)
    (λ ne. row_in word a n row k low (omega arith)))
    (λ k out. put_both (λ y. y ≡ word k) (with_row word a n row) at x k
    (λ e. elim out [
      | inl below ↦ absurd (omega arith)
      | inr above ↦ absurd (omega arith)
    ])
    (λ ne. elim out [
      | inl below ↦ row_out word a n row k (inl below)
      | inr above ↦ row_out word a n row k (inr (omega arith))
    ]))

-- ---- a row written over a part of a list
pub written_in : {X : Type 0} (xs ys : List X) (d : X) (a k q : ℕ) → k ≡ length ys → a + k ≤ length xs → a ≤ q → q < a + length ys → get_or (put_mid a k xs ys) q d ≡ get_or ys (q - a) d
written_in xs ys d a k q n fits low high =
    get_or-append_right (take a xs) (ys ++ post_of a k xs) a q d (length-take-le a xs (omega arith)) low
    ∙ get_or_append_left ys (post_of a k xs) d (q - a) (omega arith)

pub written_out : {X : Type 0} (xs ys : List X) (d : X) (a k q : ℕ) → k ≡ length ys → a + k ≤ length xs → (q < a) ⊎ (a + length ys ≤ q) → get_or (put_mid a k xs ys) q d ≡ get_or xs q d
written_out xs ys d a k q n fits (inl low) =
    let long : length (take a xs) ≡ a = length-take-le a xs (omega arith) in
    get_or_append_left (take a xs) (ys ++ post_of a k xs) d q (omega (arith, long)) ∙ get_or-take a xs q d low
written_out xs ys d a k q n fits (inr high) =
    get_or-append_right (take a xs) (ys ++ post_of a k xs) a q d (length-take-le a xs (omega arith)) (omega arith)
    ∙ get_or-append_right ys (post_of a k xs) (length ys) (q - a) d refl (omega arith)
    ∙ get_or-drop k (drop a xs) (q - a - length ys) d ∙ get_or-drop a xs (k + (q - a - length ys)) d
    ∙ (let at : a + (k + (q - a - length ys)) ≡ q = omega arith in ap (λ i. get_or xs i d) at)

pub written_len : {X : Type 0} (a k : ℕ) (xs ys : List X) → a + k ≤ length xs → length ys ≡ k → length (put_mid a k xs ys) ≡ length xs
written_len a k xs ys fits same = omega (arith, length-append (take a xs) (ys ++ post_of a k xs), length-append ys (post_of a k xs), length-take-le a xs (omega arith), length-drop k (drop a xs), length-drop a xs)

module _ {Z : Type 0} (v : Vec ℕ Z) (xs ys : List ℕ) (a k : ℕ) (same : xs ≡ v.items) where
  -- a `Vec` with zs written over its part from a on
  pub row_written : (zs : List ℕ) → ys ≡ zs → k ≡ length zs → a + length zs ≤ length v.items →
      (λ (q : ℕ). get_or (with_items v (put_mid a k xs ys)).items q 0) ≡ with_row (λ q. get_or v.items q 0) a (length zs) (λ i. get_or zs i 0)
  row_written zs is n fits =
      let long : length (put_mid a k v.items zs) ≡ v.len = written_len a k v.items zs (omega arith) (sym n) ∙ sym v.ok.0 in
      (λ i q. get_or (with_items v (put_mid a k (same i) (is i))).items q 0)
      ∙ (λ i q. get_or (with_items_is v (put_mid a k v.items zs) long i) q 0)
      ∙ row_is (λ q. get_or v.items q 0) (λ q. get_or (put_mid a k v.items zs) q 0) a (length zs) (λ i. get_or zs i 0)
      (λ q low high. written_in v.items zs 0 a k q n (omega arith) low high) (λ q out. written_out v.items zs 0 a k q n (omega arith) out)

  -- a `Vec` with its part from a on filled with 0
  pub zeros_written : (n : ℕ) → ys ≡ replicate (length (mid_of a k xs)) 0 → k ≡ n → a + n ≤ length v.items →
      (λ (q : ℕ). get_or (with_items v (put_mid a k xs ys)).items q 0) ≡ with_row (λ q. get_or v.items q 0) a n (λ _. 0)
  zeros_written n is size fits =
      let behind : length (drop a xs) ≡ length v.items - a = length-drop a xs ∙ ap (λ l. length l - a) same in
      let part : length (mid_of a k xs) ≡ n = length-take-le k (drop a xs) (omega (arith, behind)) ∙ size in
      let long : length (replicate n 0) ≡ n = length-replicate n 0 in
      row_written (replicate n 0) (is ∙ ap (λ m. replicate m 0) part) (size ∙ sym long) (omega (arith, long))
      ∙ (λ i. with_row (λ q. get_or v.items q 0) a (long i) (λ q. row_of (replicate n 0) n 0 refl q i))

-- a part of a `Vec` filled with x
module _ {X Z : Type 0} (v : Vec X Z) (xs ys : List X) (a k : ℕ) (same : xs ≡ v.items) (x d : X) (is : ys ≡ replicate (length (mid_of a k xs)) x) (fits : a + k ≤ length v.items) where
  abbrev pub filled : List X
  filled = (with_items v (put_mid a k xs ys)).items

  as_written : filled ≡ put_mid a k v.items (replicate k x)
  as_written =
      let behind : length (drop a xs) ≡ length v.items - a = length-drop a xs ∙ ap (λ l. length l - a) same in
      let part : length (mid_of a k xs) ≡ k = length-take-le k (drop a xs) (omega (arith, behind)) in
      let long : length (put_mid a k v.items (replicate k x)) ≡ v.len = written_len a k v.items (replicate k x) (omega arith) (length-replicate k x) ∙ sym v.ok.0 in
      (λ i. (with_items v (put_mid a k (same i) ((is ∙ ap (λ l. replicate l x) part) i))).items) ∙ with_items_is v (put_mid a k v.items (replicate k x)) long

  pub filled_in : (q : ℕ) → a ≤ q → q < a + k → get_or filled q d ≡ x
  filled_in q low high =
      let long : length (replicate k x) ≡ k = length-replicate k x in
      ap (λ l. get_or l q d) as_written ∙ written_in v.items (replicate k x) d a k q (sym long) (omega arith) low (omega (arith, long)) ∙ get_or-replicate k (q - a) x d (omega arith)

  pub filled_out : (q : ℕ) → (q < a) ⊎ (a + k ≤ q) → get_or filled q d ≡ get_or v.items q d
  filled_out q out = ap (λ l. get_or l q d) as_written ∙ written_out v.items (replicate k x) d a k q (sym long) (omega arith) (outside out) where
    long : length (replicate k x) ≡ k
    long = length-replicate k x

    outside : (q < a) ⊎ (a + k ≤ q) → (q < a) ⊎ (a + length (replicate k x) ≤ q)
    outside (inl low) = inl low
    outside (inr past) = inr (omega (arith, long, past))

-- a row whose part m, of the parts of n, is x
abbrev with_part : {X : Type 0} → ℕ → (ℕ → X) → X → ℕ → ℕ → X
with_part n f x m q = cond (q / n == m) x (f q)

-- the part of the parts of n in which q lies
module _ (n m q : ℕ) (some : 0 < n) where
  part_low : q / n ≡ m → m * n ≤ q
  part_low e = subst (λ r. r * n ≤ q) e (div-mul-le_self q n)

  part_high : q / n ≡ m → q < m * n + n
  part_high e = subst (λ r. q < r * n + n) e (lt-div-mul-add some)

  part_out : q / n ≢ m → (q < m * n) ⊎ (m * n + n ≤ q)
  part_out ne = elim (cases_lt q (m * n)) [
    | inl low ↦ inl low
    | inr high ↦ elim (cases_lt q (m * n + n)) [
      | inl lt ↦ absurd (ne (
          let at : m * n + (q - m * n) ≡ q = omega (arith, high) in
          sym (ap (λ r. r / n) at) ∙ div-mul-add m n (q - m * n) (omega (arith, high, lt))))
      | inr past ↦ inr past
    ]
  ]

-- one of the parts of n of a `Vec` filled with x
module _ {X Z : Type 0} (n : ℕ) (some : 0 < n) (v : Vec X Z) (xs ys : List X) (a k : ℕ) (same : xs ≡ v.items) (x d : X) (m : ℕ) (first : a ≡ m * n) (size : k ≡ n)
    (is : ys ≡ replicate (length (mid_of a k xs)) x) (fits : a + n ≤ length v.items) where
  filled_list : (with_items v (put_mid a k xs ys)).items ≡ put_mid a k v.items (replicate k x)
  filled_list =
      let behind : length (drop a xs) ≡ length v.items - a = length-drop a xs ∙ ap (λ l. length l - a) same in
      let part : length (mid_of a k xs) ≡ k = length-take-le k (drop a xs) (omega (arith, behind)) in
      let long : length (put_mid a k v.items (replicate k x)) ≡ v.len = written_len a k v.items (replicate k x) (omega arith) (length-replicate k x) ∙ sym v.ok.0 in
      (λ i. (with_items v (put_mid a k (same i) ((is ∙ ap (λ l. replicate l x) part) i))).items) ∙ with_items_is v (put_mid a k v.items (replicate k x)) long

  filled_at : (q : ℕ) → get_or (put_mid a k v.items (replicate k x)) q d ≡ with_part n (λ q. get_or v.items q d) x m q
  filled_at q = elim (cases_eq (q / n) m) [
    | inl e ↦ (let low : m * n ≤ q = part_low n m q some e in let high : q < m * n + n = part_high n m q some e in
        written_in v.items (replicate k x) d a k q (sym long) (omega arith) (omega (arith, low)) (omega (arith, long, high))
        ∙ get_or-replicate k (q - a) x d (omega (arith, low, high)) ∙ sym (ap (λ b. cond b x (get_or v.items q d)) (eq-eqb (q / n) m e)))
    | inr ne ↦ written_out v.items (replicate k x) d a k q (sym long) (omega arith) (outside (part_out n m q some ne))
        ∙ sym (ap (λ b. cond b x (get_or v.items q d)) (ne_eqb (q / n) m ne))
  ] where
    long : length (replicate k x) ≡ k
    long = length-replicate k x

    outside : (q < m * n) ⊎ (m * n + n ≤ q) → (q < a) ⊎ (a + length (replicate k x) ≤ q)
    outside (inl low) = inl (omega (arith, low))
    outside (inr past) = inr (omega (arith, long, past))

  pub part_filled : (λ (q : ℕ). get_or (with_items v (put_mid a k xs ys)).items q d) ≡ with_part n (λ q. get_or v.items q d) x m
  part_filled = fun_ext (λ q. ap (λ l. get_or l q d) filled_list ∙ filled_at q)
