-- The words below the index are loaded too, and the seat's view is as it was.
use Rattle.std.proofs.Common.{◌≡◌, ◌+◌}
use Rattle.far_table.specs.SeatRows.{RowLoaded}
use Rattle.far_table.specs.Tells.{owner_of}
use Rattle.far_table.proofs.seat_rows.load_some.Given as goal

abbrev pub invariant-loop-i : goal.invariant-loop-i
invariant-loop-i g l = record {
  table : l.seat.table_id ≡ l.fn.seat.table_id;
  view : l.seat.me.0 ≡ l.fn.seat.me.0;
  loaded : RowLoaded l.p l.first (l.done + l.i) l.out (owner_of l.fn.seat.me.0);
}
