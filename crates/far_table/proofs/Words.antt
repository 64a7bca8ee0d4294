-- One word of the table changes: what the heap's words are then.
use Rattle.std.proofs.Common.{◌≡◌, ◌≢◌, ℕ, ◌<◌, Bool, true, false, cond, nat_lt, List, length, set, refl, ap, ◌∙◌, arith, get_or-set_other, get_or-set_same}
use Rattle.std.specs.Prelude.{slice_index}
use Rattle.std.proofs.lemmas.Bool.{lt-ltb, ltb-true}
use mathlib.Core.Path.{fun_ext}
use lib.ListN.{length-set}
use Rattle.far_word.specs.declared.sizes.TheConstants.{JOBS, MOST_MUTATORS, POINTERS}
use Rattle.far_events.specs.state.State.{put}
use Rattle.far_events.proofs.Put.{put_both}
use Rattle.far_table.specs.Layout.{EPOCH_AT, LayoutIs, table_words, scope_at, cell_at, data_at, job_at, epoch_in, scope_in, cell_in, job_in, word_in}

where_so : (t : Bool) (a b d : ℕ) → (t ≡ true → a ≡ b) → cond t a d ≡ cond t b d
where_so true a b d h = h refl
where_so false a b d h = refl

-- n words, no two at one place
module _ (at : ℕ → ℕ) (n : ℕ) (apart : (q k : ℕ) → at q ≡ at k → q ≡ k) where
  abbrev part : List ℕ → ℕ → ℕ
  part ws q = cond (nat_lt q n) (slice_index ws (at q)) 0

  part_set : (ws : List ℕ) (k x : ℕ) → k < n → at k < length ws → part (set ws (at k) x) ≡ put (part ws) k x
  part_set ws k x small inside = fun_ext (λ q. put_both (λ v. part (set ws (at k) x) q ≡ v) (part ws) k x q
      (λ e. let lt : q < n = omega arith in
      ap (λ b. cond b (slice_index (set ws (at k) x) (at q)) 0) (lt-ltb q n lt) ∙ ap (λ j. slice_index (set ws (at k) x) (at j)) e ∙ get_or-set_same ws (at k) x 0 inside)
      (λ ne. ap (λ v. cond (nat_lt q n) v 0) (get_or-set_other ws (at k) (at q) x 0 (λ e. ne (apart q k e)))))

  part_other : (ws : List ℕ) (i x : ℕ) → ((q : ℕ) → q < n → at q ≢ i) → part (set ws i x) ≡ part ws
  part_other ws i x far = fun_ext (λ q. where_so (nat_lt q n) _ _ 0 (λ t. get_or-set_other ws i (at q) x 0 (far q (ltb-true q n t))))

  part_here : (ws : List ℕ) (k : ℕ) → k < n → part ws k ≡ slice_index ws (at k)
  part_here ws k small = ap (λ b. cond b (slice_index ws (at k)) 0) (lt-ltb k n small)

scopes_apart : (q k : ℕ) → scope_at q ≡ scope_at k → q ≡ k
scopes_apart q k e = omega arith

cells_apart : (q k : ℕ) → cell_at q ≡ cell_at k → q ≡ k
cells_apart q k e = omega arith

jobs_apart : (q k : ℕ) → job_at q ≡ job_at k → q ≡ k
jobs_apart q k e = omega arith

-- ---- where a word stands
-- in numbers, so that a change of a size doesn't go unseen
pub layout_is : LayoutIs
layout_is = record { epoch = refl; scopes = (refl, refl); cells = refl; jobs = refl; logs = refl; words = λ _. refl }

pub scope_here : (ws : List ℕ) (m : ℕ) → m < MOST_MUTATORS → scope_in ws m ≡ slice_index ws (scope_at m)
scope_here = part_here scope_at MOST_MUTATORS scopes_apart

pub cell_here : (ws : List ℕ) (p : ℕ) → p < POINTERS → cell_in ws p ≡ slice_index ws (cell_at p)
cell_here = part_here cell_at POINTERS cells_apart

pub job_here : (ws : List ℕ) (j : ℕ) → j < JOBS → job_in ws j ≡ slice_index ws (job_at j)
job_here = part_here job_at JOBS jobs_apart

-- the words of the table of so many logs after a step: those of the heap, those of the jobs, and as many as there were
pub record WordsAre (logs : ℕ) (ws : List ℕ) (epoch : ℕ) (scope cell word job : ℕ → ℕ) : Type 0 where
  pub epoch_is : epoch_in ws ≡ epoch
  pub scope_is : scope_in ws ≡ scope
  pub cell_is : cell_in ws ≡ cell
  pub word_is : word_in ws ≡ word
  pub job_is : job_in ws ≡ job
  pub wide : length ws ≡ table_words logs

module _ (logs : ℕ) (ws : List ℕ) (wide : length ws ≡ table_words logs) where
  same_length : (i x : ℕ) → length (set ws i x) ≡ table_words logs
  same_length i x = length-set ws i x ∙ wide

  pub no_word : WordsAre logs ws (epoch_in ws) (scope_in ws) (cell_in ws) (word_in ws) (job_in ws)
  no_word = record { epoch_is = refl; scope_is = refl; cell_is = refl; word_is = refl; job_is = refl; wide = wide }

  pub epoch_word_set : (x : ℕ) → WordsAre logs (set ws EPOCH_AT x) x (scope_in ws) (cell_in ws) (word_in ws) (job_in ws)
  epoch_word_set x = record {
    epoch_is = get_or-set_same ws EPOCH_AT x 0 (omega arith);
    scope_is = part_other scope_at MOST_MUTATORS scopes_apart ws EPOCH_AT x (λ q l e. omega arith);
    cell_is = part_other cell_at POINTERS cells_apart ws EPOCH_AT x (λ q l e. omega arith);
    word_is = fun_ext (λ a. get_or-set_other ws EPOCH_AT (data_at a) x 0 (λ e. omega arith));
    job_is = part_other job_at JOBS jobs_apart ws EPOCH_AT x (λ q l e. omega arith);
    wide = same_length EPOCH_AT x;
  }

  pub scope_word_set : (m x : ℕ) → m < MOST_MUTATORS → WordsAre logs (set ws (scope_at m) x) (epoch_in ws) (put (scope_in ws) m x) (cell_in ws) (word_in ws) (job_in ws)
  scope_word_set m x small = record {
    epoch_is = get_or-set_other ws (scope_at m) EPOCH_AT x 0 (λ e. omega arith);
    scope_is = part_set scope_at MOST_MUTATORS scopes_apart ws m x small (omega arith);
    cell_is = part_other cell_at POINTERS cells_apart ws (scope_at m) x (λ q l e. omega arith);
    word_is = fun_ext (λ a. get_or-set_other ws (scope_at m) (data_at a) x 0 (λ e. omega arith));
    job_is = part_other job_at JOBS jobs_apart ws (scope_at m) x (λ q l e. omega arith);
    wide = same_length (scope_at m) x;
  }

  pub cell_word_set : (p x : ℕ) → p < POINTERS → WordsAre logs (set ws (cell_at p) x) (epoch_in ws) (scope_in ws) (put (cell_in ws) p x) (word_in ws) (job_in ws)
  cell_word_set p x small = record {
    epoch_is = get_or-set_other ws (cell_at p) EPOCH_AT x 0 (λ e. omega arith);
    scope_is = part_other scope_at MOST_MUTATORS scopes_apart ws (cell_at p) x (λ q l e. omega arith);
    cell_is = part_set cell_at POINTERS cells_apart ws p x small (omega arith);
    word_is = fun_ext (λ a. get_or-set_other ws (cell_at p) (data_at a) x 0 (λ e. omega arith));
    job_is = part_other job_at JOBS jobs_apart ws (cell_at p) x (λ q l e. omega arith);
    wide = same_length (cell_at p) x;
  }

  pub job_word_set : (j x : ℕ) → j < JOBS → WordsAre logs (set ws (job_at j) x) (epoch_in ws) (scope_in ws) (cell_in ws) (word_in ws) (put (job_in ws) j x)
  job_word_set j x small = record {
    epoch_is = get_or-set_other ws (job_at j) EPOCH_AT x 0 (λ e. omega arith);
    scope_is = part_other scope_at MOST_MUTATORS scopes_apart ws (job_at j) x (λ q l e. omega arith);
    cell_is = part_other cell_at POINTERS cells_apart ws (job_at j) x (λ q l e. omega arith);
    word_is = fun_ext (λ a. get_or-set_other ws (job_at j) (data_at a) x 0 (λ e. omega arith));
    job_is = part_set job_at JOBS jobs_apart ws j x small (omega arith);
    wide = same_length (job_at j) x;
  }

  pub data_word_set : (a x : ℕ) → data_at a < table_words logs → WordsAre logs (set ws (data_at a) x) (epoch_in ws) (scope_in ws) (cell_in ws) (put (word_in ws) a x) (job_in ws)
  data_word_set a x small = record {
    epoch_is = get_or-set_other ws (data_at a) EPOCH_AT x 0 (λ e. omega arith);
    scope_is = part_other scope_at MOST_MUTATORS scopes_apart ws (data_at a) x (λ q l e. omega arith);
    cell_is = part_other cell_at POINTERS cells_apart ws (data_at a) x (λ q l e. omega arith);
    word_is = fun_ext (λ q. put_both (λ v. word_in (set ws (data_at a) x) q ≡ v) (word_in ws) a x q
        (λ e. ap (word_in (set ws (data_at a) x)) e ∙ get_or-set_same ws (data_at a) x 0 (omega arith))
        (λ ne. get_or-set_other ws (data_at a) (data_at q) x 0 (λ e. ne (omega arith))));
    job_is = part_other job_at JOBS jobs_apart ws (data_at a) x (λ q l e. omega arith);
    wide = same_length (data_at a) x;
  }
