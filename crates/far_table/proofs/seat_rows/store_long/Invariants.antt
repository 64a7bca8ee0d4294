-- So many words are stored, blocks of thirty-two are left but for the last words, and the seat still holds and has soiled the row.
use Rattle.std.proofs.Common.{◌≡◌, ◌-◌, ◌/◌, ◌%◌, ◌≤◌, length}
use Rattle.far_table.specs.SeatRows.{RowStored, SoiledRow}
use Rattle.far_table.specs.Tells.{owner_of}
use Rattle.far_table.proofs.seat_rows.store_long.Given as goal

abbrev pub invariant-loop-done : goal.invariant-loop-done
invariant-loop-done g l = record {
  row : SoiledRow l.seat.table_id l.shared.table_id l.seat.me.0 l.p l.begin l.first (length l.bytes);
  room : l.done ≤ length l.bytes / 8;
  whole : (length l.bytes / 8 - l.done) % 32 ≡ length l.bytes / 8 % 32;
  stored : RowStored l.p l.first l.done l.bytes (owner_of l.fn.seat.me.0) (owner_of l.seat.me.0);
}

abbrev pub decreases-loop-done : goal.decreases-loop-done
decreases-loop-done g l = l.most - l.done
