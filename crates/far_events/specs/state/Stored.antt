-- What is stored of each pointer, by a list of what was stored, the last one first.
use Rattle.std.specs.Prelude.{◌≡◌, ℕ, ◌≤◌, List, [], ◌∷◌, length, slice_index}
use Rattle.std.specs.Vec.{vec_len}
use Rattle.far_word.specs.declared.sizes.TheConstants.{LOG_WORDS}
use Rattle.far_events.specs.declared.memory.stored_rows.StoredRows.{StoredRows}
use Rattle.far_events.specs.state.Rows.{with_first}
use Rattle.far_events.specs.state.State.{put}
use Rattle.far_events.specs.state.StoredRows.{stored_in}

-- word i of pointer p
abbrev pub stored_by : List (ℕ × List ℕ) → ℕ → ℕ → ℕ
stored_by [] = λ _ _. 0
stored_by (x ∷ xs) = put (stored_by xs) x.0 (with_first (length x.1) (λ i. slice_index x.1 i) (stored_by xs x.0))

-- past the last pointer, and past the length of a log, all is 0
pub record StoredEnds (pointers : ℕ) (xs : List (ℕ × List ℕ)) : Type 0 where
  pub few : (p i : ℕ) → pointers ≤ p → stored_by xs p i ≡ 0
  pub short : (p i : ℕ) → LOG_WORDS ≤ i → stored_by xs p i ≡ 0

-- rows that are kept have a row for each pointer, and say the same
pub record RowsAre (pointers : ℕ) (stored : ℕ → ℕ → ℕ) (rows : StoredRows) : Type 0 where
  pub sized : vec_len rows.row_of ≡ pointers
  pub same : stored_in rows ≡ stored
