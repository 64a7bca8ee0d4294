-- What a mutator knows by itself of pointers, and its count of scopes.
use Rattle.std.specs.Prelude.{◌≡◌, ◌≢◌, ℕ, ◌<◌, ◌≤◌, List, length, slice_index_or}
use Rattle.far_word.specs.declared.sizes.TheConstants.{POINTERS}
use Rattle.far_heap.specs.declared.rows.Row.{Row}
use Rattle.far_heap.specs.declared.rows.Rows.{Rows}

-- what is known of a pointer that isn't used, and whose object no scope has viewed
abbrev pub blank : Row
blank = record { viewed = 0; len = 0; structure = 0 }

abbrev pub row_in : List Row → ℕ → Row
row_in each p = slice_index_or each p blank

-- what is known of a pointer, and which scope soiled its object last
abbrev pub row_of : Rows → ℕ → Row
row_of rows p = row_in rows.each.items p

abbrev pub soiled_of : Rows → ℕ → ℕ
soiled_of rows p = slice_index_or rows.soiled.items p 0

-- they are of the pointers of the largest heap, and no count is above that of the open scope, or the next
pub record RowsOk (rows : Rows) : Type 0 where
  pub many : length rows.each.items ≡ POINTERS
  pub many_soiled : length rows.soiled.items ≡ POINTERS
  pub some : 0 < rows.scope
  pub viewed : (p : ℕ) → (row_of rows p).viewed ≤ rows.scope
  pub soiled : (p : ℕ) → soiled_of rows p ≤ rows.scope

-- nothing is known, and the first scope is next
pub record IsBlank (rows : Rows) : Type 0 where
  pub many : length rows.each.items ≡ POINTERS
  pub many_soiled : length rows.soiled.items ≡ POINTERS
  pub each : (p : ℕ) → row_of rows p ≡ blank
  pub soiled : (p : ℕ) → soiled_of rows p ≡ 0
  pub scope : rows.scope ≡ 1

-- this is known of one pointer, and nothing else changed
pub record HasRow (old new : Rows) (p : ℕ) (row : Row) : Type 0 where
  pub here : row_of new p ≡ row
  pub there : (q : ℕ) → q ≢ p → row_of new q ≡ row_of old q
  pub many : length new.each.items ≡ length old.each.items
  pub rest : new ≡ record old { each = new.each }

-- the scope has soiled one pointer's object, and nothing else changed
pub record HasSoil (old new : Rows) (p : ℕ) : Type 0 where
  pub here : soiled_of new p ≡ old.scope
  pub there : (q : ℕ) → q ≢ p → soiled_of new q ≡ soiled_of old q
  pub many : length new.soiled.items ≡ length old.soiled.items
  pub rest : new ≡ record old { soiled = new.soiled }

-- the scope has ended: all counts are below that of the next
pub record EndsScope (old new : Rows) : Type 0 where
  pub many : length new.each.items ≡ POINTERS
  pub many_soiled : length new.soiled.items ≡ POINTERS
  pub viewed : (p : ℕ) → (row_of new p).viewed < new.scope
  pub soiled : (p : ℕ) → soiled_of new p < new.scope
  pub lens : (p : ℕ) → (row_of new p).len ≡ (row_of old p).len
  pub structures : (p : ℕ) → (row_of new p).structure ≡ (row_of old p).structure
  pub blanks : (p : ℕ) → (row_of old p).viewed ≡ 0 → (row_of new p).viewed ≡ 0
