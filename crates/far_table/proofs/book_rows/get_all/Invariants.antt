use Rattle.std.proofs.Common.{◌≡◌, ◌*◌, drop, length}
use Rattle.far_hand.specs.Ranges.{HasRead}
use Rattle.far_table.specs.BookRows.{InPart, Leads, part_view}
use Rattle.far_table.proofs.book_rows.get_all.Given as goal

abbrev pub invariant-loop-i : goal.invariant-loop-i
invariant-loop-i g l = record {
  words : InPart l.fn.shared.table_id l.fn.seat (λ makes. HasRead ⊥ part_view makes l.fn.log l.fn.at l.fn.seat l.seat (8 * l.i) l.row);
  leads : Leads l.fn.shared.table_id l.fn.seat l.seat;
  behind : drop (8 * (8 * l.i)) l.row ≡ drop (8 * (8 * l.i)) l.fn.row;
  long : length l.row ≡ length l.fn.row;
}
