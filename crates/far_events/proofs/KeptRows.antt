-- Stored words: a row for each pointer that has one.
use Rattle.std.proofs.Common.{◌≡◌, ℕ, suc, ◌+◌, ◌-◌, ◌*◌, ◌<◌, ◌≤◌, ◌≢◌, ◌∙◌, cond, nat_lt, arith, ap, sym, subst, inl, inr, List, [], ◌∷◌, ◌++◌, length, take, get_or}
use Rattle.std.specs.Prelude.{◌⊎◌, replicate}
use Rattle.std.specs.List.{sum_by}
use Rattle.std.specs.Vec.{vec_capacity, vec_len, with_items}
use Rattle.std.specs.declared.vec.Vec.{Vec}
use borrow.Rule.Slice.PartMut.{put_mid}
use Rattle.std.proofs.lemmas.Bool.{cases_eq, cases_lt, lt-ltb, le-ltb}
use Rattle.std.proofs.lemmas.List.{get_or_past, get_or-set_same, get_or-set_other, length-set}
use Rattle.std.proofs.lemmas.List.Sums.{sum_by-cons, sum_by-set}
use Rattle.std.proofs.Math.ListN.{set}
use mathlib.Core.Path.{fun_ext}
use Rattle.far_word.specs.declared.sizes.TheConstants.{LOG_WORDS}
use Rattle.far_events.specs.declared.memory.stored_rows.Row.{Row}
use Rattle.far_events.specs.declared.memory.stored_rows.StoredRows.{StoredRows}
use Rattle.far_events.specs.events.Ranges.{with_row}
use Rattle.far_events.specs.state.Rows.{AreApart, HalfOrAll, RowsAreApart, RowsFit, RowsSized, no_row, room_in, row_at, row_word, with_first}
use Rattle.far_events.specs.state.State.{put}
use Rattle.far_events.proofs.Put.{put_both}
use Rattle.far_events.proofs.CopierRows.{none_behind}
use Rattle.far_events.proofs.Rows.{row_in, row_out, row_written}

pub within : (b : ℕ) (x y j : ℕ) → j < b → cond (nat_lt j b) x y ≡ x
within b x y j lt = ap (λ t. cond t x y) (lt-ltb j b lt)

pub beyond : (b : ℕ) (x y j : ℕ) → b ≤ j → cond (nat_lt j b) x y ≡ y
beyond b x y j le = ap (λ t. cond t x y) (le-ltb j b le)

-- a word of a row, and past its end
pub word_in : (words : List ℕ) (row : Row) (i : ℕ) → i < row.room → row_word words row i ≡ get_or words (row.start + i) 0
word_in words row i lt = within row.room (get_or words (row.start + i) 0) 0 i lt

pub word_past : (words : List ℕ) (row : Row) (i : ℕ) → row.room ≤ i → row_word words row i ≡ 0
word_past words row i le = beyond row.room (get_or words (row.start + i) 0) 0 i le

at_most : (room : ℕ) → HalfOrAll room → room ≤ LOG_WORDS
at_most room sized = elim (cases_lt LOG_WORDS (2 * room)) [
  | inl more ↦ omega (arith, sized more)
  | inr half ↦ omega (arith, half)
]

-- ---- what no row has
-- where no pointer has a row nothing is stored
module _ (row_of : List Row) (none : (p : ℕ) → row_at row_of p ≡ no_row) where
  pub none_stored : (words : List ℕ) (p i : ℕ) → row_word words (row_at row_of p) i ≡ 0
  none_stored words p i = word_past words (row_at row_of p) i (omega (arith, ap room_in (none p)))

-- ---- all rows together
sum_few : (row_of : List Row) → RowsSized row_of → sum_by room_in row_of ≤ length row_of * LOG_WORDS
sum_few [] sized = omega arith
sum_few (x ∷ row_of) sized =
    let one = at_most x.room (sized 0) in
    let others = sum_few row_of (λ p. sized (suc p)) in
    subst (λ n. n ≤ suc (length row_of) * LOG_WORDS) (sym (sum_by-cons room_in x row_of)) (omega arith)

pub few_words : (rows : StoredRows) → vec_len rows.words ≤ 2 * LOG_WORDS * vec_len rows.row_of
few_words rows = omega (arith, rows.used, sum_few rows.row_of.items rows.sized, rows.row_of.ok.0)

-- ---- a pointer gets another row
module _ (row_of : List Row) (p : ℕ) (row : Row) (inside : p < length row_of) where
  abbrev pub more : List Row
  more = set row_of p row

  here : (q : ℕ) → q ≡ p → row_at more q ≡ row
  here q e = ap (row_at more) e ∙ get_or-set_same row_of p row no_row inside

  there : (q : ℕ) → q ≢ p → row_at more q ≡ row_at row_of q
  there q ne = get_or-set_other row_of p q row no_row ne

  pub more_sized : RowsSized row_of → HalfOrAll row.room → RowsSized more
  more_sized sized own q = elim (cases_eq q p) [
    | inl e ↦ subst (λ (x : Row). HalfOrAll x.room) (sym (here q e)) own
    | inr ne ↦ subst (λ (x : Row). HalfOrAll x.room) (sym (there q ne)) (sized q)
  ]

  -- one of at least twice the room pays for what is left
  pub more_used : (len : ℕ) → len ≤ 2 * sum_by room_in row_of → 2 * (row_at row_of p).room ≤ row.room → len + row.room ≤ 2 * sum_by room_in more
  more_used len used twice = omega (arith, used, twice, sum_by-set room_in row_of p row no_row inside)

  -- behind all words it shows what it begins with
  module _ (xs ys zs : List ℕ) (fit : RowsFit (length xs) row_of) (longer : (row_at row_of p).room ≤ length zs) (long : length zs ≤ row.room)
      (before : (k : ℕ) → k < length xs → get_or ys k 0 ≡ get_or xs k 0) (own : (i : ℕ) → i < length zs → get_or ys (row.start + i) 0 ≡ get_or zs i 0)
      (zeros : (k : ℕ) → row.start + length zs ≤ k → get_or ys k 0 ≡ 0) where
    zero_there : (j : ℕ) → length zs ≤ j → row_word ys row j ≡ 0
    zero_there j le = elim (cases_lt j row.room) [
      | inl lt ↦ word_in ys row j lt ∙ zeros (row.start + j) (omega (arith, le))
      | inr past ↦ word_past ys row j past
    ]

    its_new : (j : ℕ) → row_word ys row j ≡ with_first (length zs) (λ i. get_or zs i 0) (row_word xs (row_at row_of p)) j
    its_new j = elim (cases_lt j (length zs)) [
      | inl lt ↦ word_in ys row j (omega (arith, lt, long)) ∙ own j lt ∙ sym (within (length zs) (get_or zs j 0) (row_word xs (row_at row_of p) j) j lt)
      | inr le ↦ zero_there j le ∙ sym (beyond (length zs) (get_or zs j 0) (row_word xs (row_at row_of p) j) j le ∙ word_past xs (row_at row_of p) j (omega (arith, le, longer)))
    ]

    others : (q j : ℕ) → row_word ys (row_at row_of q) j ≡ row_word xs (row_at row_of q) j
    others q j = elim (cases_lt j (row_at row_of q).room) [
      | inl lt ↦ word_in ys (row_at row_of q) j lt ∙ before ((row_at row_of q).start + j) (omega (arith, fit q, lt)) ∙ sym (word_in xs (row_at row_of q) j lt)
      | inr past ↦ word_past ys (row_at row_of q) j past ∙ sym (word_past xs (row_at row_of q) j past)
    ]

    pub row_added : (λ (q : ℕ). row_word ys (row_at more q)) ≡ put (λ q. row_word xs (row_at row_of q)) p (with_first (length zs) (λ i. get_or zs i 0) (row_word xs (row_at row_of p)))
    row_added = fun_ext (λ q. put_both (λ (x : ℕ → ℕ). row_word ys (row_at more q) ≡ x) (λ q. row_word xs (row_at row_of q)) p (with_first (length zs) (λ i. get_or zs i 0) (row_word xs (row_at row_of p))) q
        (λ e. fun_ext (λ j. ap (λ x. row_word ys x j) (here q e) ∙ its_new j)) (λ ne. fun_ext (λ j. ap (λ x. row_word ys x j) (there q ne) ∙ others q j)))

-- there is room for it
pub has_room : (rows : StoredRows) (p : ℕ) (row : Row) → p < vec_len rows.row_of → HalfOrAll row.room → 2 * (row_at rows.row_of.items p).room ≤ row.room → vec_len rows.words + row.room ≤ vec_capacity rows.words
has_room rows p row inside own twice =
    let lt : p < length rows.row_of.items = omega (arith, inside, rows.row_of.ok.0) in
    omega (
      arith,
      rows.row_of.ok.0,
      rows.room,
      more_used rows.row_of.items p row lt (vec_len rows.words) rows.used twice,
      sum_few (more rows.row_of.items p row lt) (more_sized rows.row_of.items p row lt rows.sized own),
      length-set rows.row_of.items p row,
    )

-- ---- words written at the beginning of p's row are the first that are stored of it
module _ (row_of : List Row) (apart : RowsAreApart row_of) (p : ℕ) (xs ys zs : List ℕ) (short : length zs ≤ (row_at row_of p).room)
    (is : (λ (q : ℕ). get_or ys q 0) ≡ with_row (λ q. get_or xs q 0) (row_at row_of p).start (length zs) (λ i. get_or zs i 0)) where
  abbrev its : Row
  its = row_at row_of p

  at : (k : ℕ) → get_or ys k 0 ≡ with_row (λ q. get_or xs q 0) its.start (length zs) (λ i. get_or zs i 0) k
  at k = ap (λ (f : ℕ → ℕ). f k) is

  its_row : (j : ℕ) → row_word ys its j ≡ with_first (length zs) (λ i. get_or zs i 0) (row_word xs its) j
  its_row j = elim (cases_lt j its.room) [
    | inl lt ↦ word_in ys its j lt ∙ at (its.start + j) ∙ elim (cases_lt j (length zs)) [
      | inl low ↦ (let same : its.start + j - its.start ≡ j = omega arith in
          row_in (λ q. get_or xs q 0) its.start (length zs) (λ i. get_or zs i 0) (its.start + j) (omega arith) (omega (arith, low)) ∙ ap (λ i. get_or zs i 0) same
          ∙ sym (within (length zs) (get_or zs j 0) (row_word xs its j) j low))
      | inr high ↦ row_out (λ q. get_or xs q 0) its.start (length zs) (λ i. get_or zs i 0) (its.start + j) (inr (omega (arith, high)))
          ∙ sym (beyond (length zs) (get_or zs j 0) (row_word xs its j) j high ∙ word_in xs its j lt)
    ]
    | inr past ↦ word_past ys its j past ∙ sym (beyond (length zs) (get_or zs j 0) (row_word xs its j) j (omega (arith, past, short)) ∙ word_past xs its j past)
  ]

  outside : (x : Row) (j : ℕ) → j < x.room → AreApart x its → (x.start + j < its.start) ⊎ (its.start + length zs ≤ x.start + j)
  outside x j lt apart_from = elim (cases_lt its.start (x.start + x.room)) [
    | inl before ↦ inr (omega (arith, apart_from before, short))
    | inr past ↦ inl (omega (arith, past, lt))
  ]

  other_row : (q : ℕ) → q ≢ p → (j : ℕ) → row_word ys (row_at row_of q) j ≡ row_word xs (row_at row_of q) j
  other_row q ne j = elim (cases_lt j (row_at row_of q).room) [
    | inl lt ↦ word_in ys (row_at row_of q) j lt ∙ at ((row_at row_of q).start + j)
        ∙ row_out (λ q. get_or xs q 0) its.start (length zs) (λ i. get_or zs i 0) ((row_at row_of q).start + j) (outside (row_at row_of q) j lt (apart q p ne))
        ∙ sym (word_in xs (row_at row_of q) j lt)
    | inr past ↦ word_past ys (row_at row_of q) j past ∙ sym (word_past xs (row_at row_of q) j past)
  ]

  pub row_kept : (λ (q : ℕ). row_word ys (row_at row_of q)) ≡ put (λ q. row_word xs (row_at row_of q)) p (with_first (length zs) (λ i. get_or zs i 0) (row_word xs its))
  row_kept = fun_ext (λ q. put_both (λ (x : ℕ → ℕ). row_word ys (row_at row_of q) ≡ x) (λ q. row_word xs (row_at row_of q)) p (with_first (length zs) (λ i. get_or zs i 0) (row_word xs its)) q
      (λ e. fun_ext (λ j. ap (λ (r : ℕ). row_word ys (row_at row_of r) j) e ∙ its_row j)) (λ ne. fun_ext (λ j. other_row q ne j)))

-- ---- a list made longer by zeros, where a row is written at its old end
module _ {Z : Type 0} (xs : List ℕ) (v : Vec ℕ Z) (hs ys zs : List ℕ) (a m n k c : ℕ) (len : m ≡ length xs) (end : a ≡ m) (longer : v.items ≡ take (a + n) xs ++ replicate (a + n - m) 0)
    (same : hs ≡ v.items) (is : ys ≡ zs) (size : k ≡ c) (long : length zs ≡ c) (fits : a + c ≤ length v.items) where
  now_there : (q : ℕ) → get_or (with_items v (put_mid a k hs ys)).items q 0 ≡ with_row (λ q. get_or xs q 0) a (length zs) (λ i. get_or zs i 0) q
  now_there q = ap (λ (f : ℕ → ℕ). f q) (row_written v hs ys a k same zs is (size ∙ sym long) (omega (arith, long, fits))
      ∙ ap (λ (f : ℕ → ℕ). with_row f a (length zs) (λ i. get_or zs i 0)) (fun_ext (none_behind 0 xs v.items m (a + n) len (omega (arith, end)) longer)))

  pub before_end : (q : ℕ) → q < m → get_or (with_items v (put_mid a k hs ys)).items q 0 ≡ get_or xs q 0
  before_end q lt = now_there q ∙ row_out (λ q. get_or xs q 0) a (length zs) (λ i. get_or zs i 0) q (inl (omega (arith, lt, end)))

  pub at_end : (i : ℕ) → i < c → get_or (with_items v (put_mid a k hs ys)).items (m + i) 0 ≡ get_or zs i 0
  at_end i lt = now_there (m + i) ∙ row_in (λ q. get_or xs q 0) a (length zs) (λ i. get_or zs i 0) (m + i) (omega (arith, end)) (omega (arith, end, long, lt))
      ∙ (let at : m + i - a ≡ i = omega (arith, end) in ap (λ j. get_or zs j 0) at)

  pub behind_end : (q : ℕ) → m + c ≤ q → get_or (with_items v (put_mid a k hs ys)).items q 0 ≡ 0
  behind_end q le = now_there q ∙ row_out (λ q. get_or xs q 0) a (length zs) (λ i. get_or zs i 0) q (inr (omega (arith, end, long, le))) ∙ get_or_past xs q 0 (omega (arith, le, len))
