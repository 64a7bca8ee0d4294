-- The words that are written for a state are its table.
use Rattle.std.proofs.Common.{◌≡◌, ℕ, ◌+◌, ◌-◌, ◌/◌, ◌%◌, ◌<◌, ◌≤◌, cond, nat_lt, List, [], ◌∷◌, ◌++◌, map, sym, ap, ◌∙◌, arith}
use Rattle.std.specs.Prelude.{slice_index}
use Rattle.std.specs.List.{range_with_len}
use Rattle.std.proofs.lemmas.Bool.{eq-eqb, le-ltb, lt-ltb}
use Rattle.std.proofs.lemmas.List.FromFn.{get_or-map-range_with_len, length-map-range_with_len, map-range_with_len_more}
use Rattle.far_events.specs.state.State.{State}
use Rattle.far_table.specs.First.{IsTableOf}
use Rattle.far_table.specs.Layout.{EPOCH_AT, LINE, table_words, cell_at, data_at, job_at, scope_at}
use Rattle.far_table.specs.Tabled.{line_word, table_word}

-- a list that is filled from its first member on, with one member more
pub filled_more : {X : Type 0} (f : ℕ → X) (n : ℕ) (items : List X) (x : X) → items ≡ map f (range_with_len 0 n) → x ≡ f n → items ++ x ∷ [] ≡ map f (range_with_len 0 (n + 1))
filled_more f n items x before new = ap (λ l. l ++ x ∷ []) before ∙ (ap (λ y. map f (range_with_len 0 n) ++ y ∷ []) new ∙ sym (map-range_with_len_more f 0 n n (omega arith)))

-- a choice by a bound
below : (i n a b : ℕ) → i < n → cond (nat_lt i n) a b ≡ a
below i n a b less = ap (λ t. cond t a b) (lt-ltb i n less)

past : (i n a b : ℕ) → n ≤ i → cond (nat_lt i n) a b ≡ b
past i n a b most = ap (λ t. cond t a b) (le-ltb i n most)

module _ (s : State) where
  abbrev pub table : List ℕ
  table = map (table_word s) (range_with_len 0 (table_words s.logs))

  word_here : (i : ℕ) → i < table_words s.logs → slice_index table i ≡ table_word s i
  word_here i small = get_or-map-range_with_len (table_word s) 0 (table_words s.logs) i i 0 small (omega arith)

  -- past the words of the split and the epoch
  from_scopes : (i : ℕ) → scope_at 0 ≤ i → table_word s i ≡ cond (nat_lt i (cell_at 0)) (line_word s.scope (i - scope_at 0)) (cond (nat_lt i (job_at 0)) (s.cell (i - cell_at 0)) (cond (nat_lt i (data_at 0)) (s.copying.word (i - job_at 0)) (s.word (i - data_at 0))))
  from_scopes i most = past i (scope_at 0) _ _ most

  from_cells : (i : ℕ) → cell_at 0 ≤ i → table_word s i ≡ cond (nat_lt i (job_at 0)) (s.cell (i - cell_at 0)) (cond (nat_lt i (data_at 0)) (s.copying.word (i - job_at 0)) (s.word (i - data_at 0)))
  from_cells i most = from_scopes i (omega arith) ∙ past i (cell_at 0) _ _ most

  from_jobs : (i : ℕ) → job_at 0 ≤ i → table_word s i ≡ cond (nat_lt i (data_at 0)) (s.copying.word (i - job_at 0)) (s.word (i - data_at 0))
  from_jobs i most = from_cells i (omega arith) ∙ past i (job_at 0) _ _ most

  scope_here : (m : ℕ) → line_word s.scope (scope_at m - scope_at 0) ≡ s.scope m
  scope_here m = let past : ℕ = scope_at m - scope_at 0 in
      ap (λ t. cond t (s.scope (past / LINE)) 0) (eq-eqb (past % LINE) 0 (omega arith)) ∙ ap s.scope (omega arith)

  pub is_table : IsTableOf table s
  is_table = record {
    wide = length-map-range_with_len (table_word s) 0 (table_words s.logs);
    epoch = word_here EPOCH_AT (omega arith);
    scopes = λ m small. word_here (scope_at m) (omega arith) ∙ (from_scopes (scope_at m) (omega arith) ∙ (below (scope_at m) (cell_at 0) _ _ (omega arith) ∙ scope_here m));
    cells = λ p small. word_here (cell_at p) (omega arith) ∙ (from_cells (cell_at p) (omega arith) ∙ (below (cell_at p) (job_at 0) _ _ (omega arith) ∙ ap s.cell (omega arith)));
    words = λ a small. word_here (data_at a) (omega arith) ∙ (from_jobs (data_at a) (omega arith) ∙ (past (data_at a) (data_at 0) _ _ (omega arith) ∙ ap s.word (omega arith)));
    jobs = λ j small. word_here (job_at j) (omega arith) ∙ (from_jobs (job_at j) (omega arith) ∙ (below (job_at j) (data_at 0) _ _ (omega arith) ∙ ap s.copying.word (omega arith)));
  }
