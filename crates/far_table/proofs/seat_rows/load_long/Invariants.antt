-- So many words are loaded, blocks of thirty-two are left but for the last words, and the seat's view is as it was.
use Rattle.std.proofs.Common.{◌≡◌, ◌-◌, ◌/◌, ◌%◌, ◌≤◌, length}
use Rattle.far_table.specs.SeatRows.{RowLoaded}
use Rattle.far_table.specs.Tells.{owner_of}
use Rattle.far_table.proofs.seat_rows.load_long.Given as goal

abbrev pub invariant-loop-done : goal.invariant-loop-done
invariant-loop-done g l = record {
  table : l.seat.table_id ≡ l.fn.seat.table_id;
  view : l.seat.me.0 ≡ l.fn.seat.me.0;
  long : length l.out ≡ length l.fn.out;
  room : l.done ≤ length l.fn.out / 8;
  whole : (length l.fn.out / 8 - l.done) % 32 ≡ length l.fn.out / 8 % 32;
  loaded : RowLoaded l.p l.first l.done l.out (owner_of l.seat.me.0);
}

abbrev pub decreases-loop-done : goal.decreases-loop-done
decreases-loop-done g l = l.most - l.done
