-- What rows say is stored of each pointer.
use Rattle.std.specs.Prelude.{ℕ}
use Rattle.far_events.specs.declared.memory.stored_rows.StoredRows.{StoredRows}
use Rattle.far_events.specs.state.Rows.{row_at, row_word}

-- word i of pointer p
unfoldable pub stored_in : StoredRows → ℕ → ℕ → ℕ
stored_in rows p i = row_word rows.words.items (row_at rows.row_of.items p) i
