-- The words below the index are stored too, and the seat holds and has soiled each row that it did before.
use Rattle.std.proofs.Common.{◌+◌, ℕ}
use Rattle.far_table.specs.SeatRows.{RowStored, SoiledRow}
use Rattle.far_table.specs.Tells.{owner_of}
use Rattle.far_table.specs.View.{OwnerView}
use Rattle.far_table.proofs.seat_rows.store_some.Given as goal

abbrev pub invariant-loop-i : goal.invariant-loop-i
invariant-loop-i g l = record {
  rows : (begin at n : ℕ) → SoiledRow l.fn.seat.table_id l.shared.table_id l.fn.seat.me.0 l.p begin at n → SoiledRow l.seat.table_id l.shared.table_id l.seat.me.0 l.p begin at n;
  stored : (o : OwnerView) → RowStored l.p l.first l.done l.bytes o (owner_of l.fn.seat.me.0) → RowStored l.p l.first (l.done + l.i) l.bytes o (owner_of l.seat.me.0);
}
