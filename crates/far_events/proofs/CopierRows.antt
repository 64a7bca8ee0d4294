-- The words of copiers: a row of a log's length for each.
use Rattle.std.proofs.Common.{◌≡◌, ◌≢◌, ℕ, ◌+◌, ◌-◌, ◌*◌, ◌<◌, ◌≤◌, ◌∙◌, cond, nat_lt, refl, sym, ap, arith, inl, inr, List, ◌++◌, length, take, get_or}
use Rattle.std.specs.Prelude.{◌⊎◌, replicate}
use Rattle.std.proofs.lemmas.List.{get_or-append_right, get_or_append_left, get_or-set_other, get_or-set_same, get_or-take, get_or_past, length-take}
use Rattle.std.proofs.lemmas.Bool.{cases_eq, cases_lt, cond_both, le-ltb, lt-ltb, ltb-true}
use Rattle.std.proofs.Math.ListN.{set}
use Rattle.std.specs.Vec.{with_items}
use Rattle.std.specs.declared.vec.Vec.{Vec}
use borrow.Rule.Slice.PartMut.{put_mid, mid_of}
use mathlib.Core.Path.{fun_ext}
use Rattle.far_word.specs.declared.sizes.TheConstants.{LOG_WORDS}
use Rattle.far_events.specs.declared.memory.jobs.Jobs.{Jobs}
use Rattle.far_events.specs.state.CopierRows.{EmptyBehind}
use Rattle.far_events.specs.state.Memory.{copying_of}
use Rattle.far_events.specs.state.State.{put}
use Rattle.far_events.proofs.Begins.{row_of}
use Rattle.far_events.proofs.Put.{put_both, put_same, put_other}
use Rattle.far_events.proofs.Rows.{filled_in, filled_out}

-- what copiers may have, as rows say it and as the state does
pub has_copiers : (k : Jobs) → (copying_of k).has_copiers ≡ k.has_copiers
unfolding copying_of
has_copiers k = refl

-- rows of a log's length each
abbrev pub rows_of : {X : Type 0} → (ℕ → X) → X → ℕ → ℕ → X
rows_of f d k i = cond (nat_lt i LOG_WORDS) (f (k * LOG_WORDS + i)) d

-- only the beginning of row c may have had something, and has nothing now
module _ {X : Type 0} (f g : ℕ → X) (c t : ℕ) (d : X) (few : t ≤ LOG_WORDS) (here : (q : ℕ) → c * LOG_WORDS ≤ q → q < c * LOG_WORDS + t → g q ≡ d)
    (there : (q : ℕ) → (q < c * LOG_WORDS) ⊎ (c * LOG_WORDS + t ≤ q) → g q ≡ f q) (behind : (i : ℕ) → t ≤ i → i < LOG_WORDS → f (c * LOG_WORDS + i) ≡ d) where
  pub nothing_here : (k i : ℕ) → k ≡ c → i < LOG_WORDS → g (k * LOG_WORDS + i) ≡ d
  nothing_here k i e lt =
      let at : k * LOG_WORDS + i ≡ c * LOG_WORDS + i = omega arith in
      ap g at ∙ elim (cases_lt i t) [
        | inl low ↦ here (c * LOG_WORDS + i) (omega arith) (omega arith)
        | inr le ↦ there (c * LOG_WORDS + i) (inr (omega arith)) ∙ behind i le lt
      ]

  pub same_there : (k i : ℕ) → k ≢ c → i < LOG_WORDS → g (k * LOG_WORDS + i) ≡ f (k * LOG_WORDS + i)
  same_there k i ne lt = there (k * LOG_WORDS + i) (elim (cases_lt k c) [
    | inl low ↦ inl (omega arith)
    | inr high ↦ inr (omega arith)
  ])

  pub row_forgotten : rows_of g d ≡ put (rows_of f d) c (λ _. d)
  row_forgotten = fun_ext (λ k. put_both (λ (x : ℕ → X). rows_of g d k ≡ x) (rows_of f d) c (λ _. d) k
      (λ e. fun_ext (λ i. elim (cases_lt i LOG_WORDS) [
        | inl lt ↦ ap (λ b. cond b (g (k * LOG_WORDS + i)) d) (lt-ltb i LOG_WORDS lt) ∙ nothing_here k i e lt
        | inr le ↦ ap (λ b. cond b (g (k * LOG_WORDS + i)) d) (le-ltb i LOG_WORDS le)
      ]))
      (λ ne. fun_ext (λ i. elim (cases_lt i LOG_WORDS) [
        | inl lt ↦ ap (λ x. cond (nat_lt i LOG_WORDS) x d) (same_there k i ne lt)
        | inr le ↦ ap (λ b. cond b (g (k * LOG_WORDS + i)) d) (le-ltb i LOG_WORDS le) ∙ sym (ap (λ b. cond b (f (k * LOG_WORDS + i)) d) (le-ltb i LOG_WORDS le))
      ])))

-- nothing is behind the first words of each row, once one row has none
pub empty_again : {X : Type 0} (d : X) (touched : List ℕ) (xs ys : List X) (c : ℕ) → c < length touched → EmptyBehind d touched xs →
    ((k i : ℕ) → k ≡ c → i < LOG_WORDS → get_or ys (k * LOG_WORDS + i) d ≡ d) → ((k i : ℕ) → k ≢ c → i < LOG_WORDS → get_or ys (k * LOG_WORDS + i) d ≡ get_or xs (k * LOG_WORDS + i) d) →
    EmptyBehind d (set touched c 0) ys
empty_again d touched xs ys c inside before here there k i past lt = elim (cases_eq k c) [
  | inl e ↦ here k i e lt
  | inr ne ↦ there k i ne lt ∙ before k i (omega (arith, past, get_or-set_other touched c k 0 0 ne)) lt
]

-- the first words of row c of a `Vec` emptied, which alone may have had something
module _ {X Z : Type 0} (v : Vec X Z) (xs ys : List X) (touched : List ℕ) (c k : ℕ) (d : X) (same : xs ≡ v.items) (is : ys ≡ replicate (length (mid_of (c * LOG_WORDS) k xs)) d) (size : k ≡ get_or touched c 0)
    (few : get_or touched c 0 ≤ LOG_WORDS) (fits : c * LOG_WORDS + LOG_WORDS ≤ length v.items) (inside : c < length touched) (behind : EmptyBehind d touched v.items) where
  abbrev emptied : List X
  emptied = (with_items v (put_mid (c * LOG_WORDS) k xs ys)).items

  short : k ≤ LOG_WORDS
  short = omega (arith, size, few)

  enough : c * LOG_WORDS + k ≤ length v.items
  enough = omega (arith, short, fits)

  here_d : (q : ℕ) → c * LOG_WORDS ≤ q → q < c * LOG_WORDS + k → get_or emptied q d ≡ d
  here_d = filled_in v xs ys (c * LOG_WORDS) k same d d is enough

  there_same : (q : ℕ) → (q < c * LOG_WORDS) ⊎ (c * LOG_WORDS + k ≤ q) → get_or emptied q d ≡ get_or v.items q d
  there_same = filled_out v xs ys (c * LOG_WORDS) k same d d is enough

  behind_d : (i : ℕ) → k ≤ i → i < LOG_WORDS → get_or v.items (c * LOG_WORDS + i) d ≡ d
  behind_d i le lt = behind c i (omega (arith, size, le)) lt

  pub row_emptied : rows_of (λ q. get_or emptied q d) d ≡ put (rows_of (λ q. get_or v.items q d) d) c (λ _. d)
  row_emptied = row_forgotten (λ q. get_or v.items q d) (λ q. get_or emptied q d) c k d short here_d there_same behind_d

  pub still_empty : EmptyBehind d (set touched c 0) emptied
  still_empty = empty_again d touched v.items emptied c inside behind (nothing_here (λ q. get_or v.items q d) (λ q. get_or emptied q d) c k d short here_d there_same behind_d)
      (same_there (λ q. get_or v.items q d) (λ q. get_or emptied q d) c k d short here_d there_same behind_d)

-- nor once more words of one row may have something
pub empty_still : {X : Type 0} (d : X) (touched : List ℕ) (xs : List X) (c n : ℕ) → c < length touched → get_or touched c 0 ≤ n → EmptyBehind d touched xs → EmptyBehind d (set touched c n) xs
empty_still d touched xs c n inside up before k i past lt = elim (cases_eq k c) [
  | inl e ↦ before k i (omega (arith, up, past, ap (λ q. get_or (set touched c n) q 0) e, ap (λ q. get_or touched q 0) e, get_or-set_same touched c n 0 inside)) lt
  | inr ne ↦ before k i (omega (arith, past, get_or-set_other touched c k n 0 ne)) lt
]

pub within_still : (touched : List ℕ) (c n : ℕ) → c < length touched → n ≤ LOG_WORDS → ((k : ℕ) → get_or touched k 0 ≤ LOG_WORDS) → (k : ℕ) → get_or (set touched c n) k 0 ≤ LOG_WORDS
within_still touched c n inside few before k = elim (cases_eq k c) [
  | inl e ↦ omega (arith, few, ap (λ q. get_or (set touched c n) q 0) e, get_or-set_same touched c n 0 inside)
  | inr ne ↦ omega (arith, before k, get_or-set_other touched c k n 0 ne)
]

-- nor once one of the first words of a row has something
pub empty_written : {X : Type 0} (d v : X) (touched : List ℕ) (xs : List X) (c n : ℕ) → n < LOG_WORDS → n < get_or touched c 0 → EmptyBehind d touched xs → EmptyBehind d touched (set xs (c * LOG_WORDS + n) v)
empty_written d v touched xs c n low within before k i past lt =
    get_or-set_other xs (c * LOG_WORDS + n) (k * LOG_WORDS + i) v d (λ h. other (omega (arith, h, low, lt)) (omega (arith, h, low, lt))) ∙ before k i past lt where
      other : k ≡ c → i ≢ n
      other e h = omega (arith, past, within, ap (λ q. get_or touched q 0) e)

-- what is behind a list has no more than it
pub empty_longer : {X : Type 0} (d : X) (touched : List ℕ) (xs ys : List X) → ((k : ℕ) → get_or ys k d ≡ get_or xs k d) → EmptyBehind d touched xs → EmptyBehind d touched ys
empty_longer d touched xs ys same before k i past lt = same (k * LOG_WORDS + i) ∙ before k i past lt

-- one item of one row is written
pub row_item : {X : Type 0} (f : ℕ → X) (c i : ℕ) (v d : X) → i < LOG_WORDS → rows_of (put f (c * LOG_WORDS + i) v) d ≡ put (rows_of f d) c (put (rows_of f d c) i v)
row_item f c i v d low = fun_ext (λ k. elim (cases_eq k c) [
  | inl e ↦ fun_ext (λ n. elim (cases_eq n i) [
    | inl at ↦ (let lt : n < LOG_WORDS = omega arith in ap (λ b. cond b (put f (c * LOG_WORDS + i) v (k * LOG_WORDS + n)) d) (lt-ltb n LOG_WORDS lt)
        ∙ put_same f (c * LOG_WORDS + i) v (k * LOG_WORDS + n) (omega (arith, e, at)) ∙ sym (put_same (rows_of f d c) i v n at))
    | inr ne ↦ ap (λ x. cond (nat_lt n LOG_WORDS) x d) (put_other f (c * LOG_WORDS + i) v (k * LOG_WORDS + n) (λ h. ne (omega (arith, e)))) ∙ ap (λ x. rows_of f d x n) e ∙ sym (put_other (rows_of f d c) i v n ne)
  ]) ∙ sym (put_same (rows_of f d) c (put (rows_of f d c) i v) k e)
  | inr ne ↦ fun_ext (λ n. cond_both (nat_lt n LOG_WORDS) (put f (c * LOG_WORDS + i) v (k * LOG_WORDS + n)) d (λ x. x ≡ rows_of f d k n)
      (λ lt. let less : n < LOG_WORDS = ltb-true n LOG_WORDS lt in put_other f (c * LOG_WORDS + i) v (k * LOG_WORDS + n) (λ h. ne (omega arith)) ∙ sym (ap (λ b. cond b (f (k * LOG_WORDS + n)) d) lt))
      (λ lt. sym (ap (λ b. cond b (f (k * LOG_WORDS + n)) d) lt)))
      ∙ sym (put_other (rows_of f d) c (put (rows_of f d c) i v) k ne)
])

-- what is behind a list shows nothing
pub none_behind : {X : Type 0} (d : X) (xs ys : List X) (m n : ℕ) → m ≡ length xs → m ≤ n → ys ≡ take n xs ++ replicate (n - m) d → (k : ℕ) → get_or ys k d ≡ get_or xs k d
none_behind d xs ys m n same fits is k =
    let long : length (take n xs) ≡ length xs = length-take n xs ∙ omega arith in
    ap (λ zs. get_or zs k d) is ∙ elim (cases_lt k (length xs)) [
      | inl lt ↦ get_or_append_left (take n xs) (replicate (n - m) d) d k (omega (arith, long)) ∙ get_or-take n xs k d (omega arith)
      | inr le ↦ get_or-append_right (take n xs) (replicate (n - m) d) (length xs) k d long le
          ∙ row_of (replicate (n - m) d) (n - m) d refl (k - length xs) ∙ sym (get_or_past xs k d le)
    ]
