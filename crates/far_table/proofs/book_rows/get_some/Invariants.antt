use Rattle.std.proofs.Common.{◌≡◌, ◌+◌, ◌*◌, ℕ, drop, length}
use Rattle.atomic_table.specs.declared.shared.Seat.{Seat}
use Rattle.far_hand.specs.Ranges.{HasRead}
use Rattle.far_table.specs.BookRows.{InPart, Leads, part_view}
use Rattle.far_table.specs.View.{View}
use Rattle.far_table.proofs.book_rows.get_some.Given as goal

abbrev pub invariant-loop-i : goal.invariant-loop-i
invariant-loop-i g l = record {
  words : InPart l.fn.shared.table_id l.fn.seat (λ makes. (s : Seat ℕ View) → HasRead ⊥ part_view makes l.fn.log l.fn.at s l.fn.seat l.fn.first l.fn.row → HasRead ⊥ part_view makes l.fn.log l.fn.at s l.seat (l.fn.first + l.i) l.row);
  leads : Leads l.fn.shared.table_id l.fn.seat l.seat;
  behind : drop (8 * (l.fn.first + l.i)) l.row ≡ drop (8 * (l.fn.first + l.i)) l.fn.row;
  long : length l.row ≡ length l.fn.row;
}
