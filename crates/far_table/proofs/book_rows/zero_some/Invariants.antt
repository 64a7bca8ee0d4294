use Rattle.far_hand.specs.Ranges.{WritesRow}
use Rattle.far_table.specs.BookRows.{InPart, part_view}
use Rattle.far_table.proofs.book_rows.zero_some.Given as goal

abbrev pub invariant-loop-i : goal.invariant-loop-i
invariant-loop-i g l = InPart l.fn.shared.table_id l.fn.seat (λ makes. WritesRow ⊥ part_view makes l.fn.log l.fn.at (λ _. 0) l.fn.first l.i l.fn.seat l.seat)
