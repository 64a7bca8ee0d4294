-- What a log has in bytes.
use Rattle.std.specs.Prelude.{ℕ}
use Rattle.far_log.specs.declared.row.LogRow.{LogRow}
use Rattle.far_core.specs.laws.Observed.{live_bytes, dead_bytes, unused_bytes}
use Rattle.far_events.specs.state.State.{State}

-- the row of a log: the bytes of its live spans, of its other spans, and of the words behind them
abbrev pub row_of : State → ℕ → LogRow
row_of s l = record { log = l; live = live_bytes s l; dead = dead_bytes s l; unused = unused_bytes s l }
