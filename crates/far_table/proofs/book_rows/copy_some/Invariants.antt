use Rattle.far_hand.specs.Ranges.{CopiesRow}
use Rattle.far_table.specs.BookRows.{InPart, part_view}
use Rattle.far_table.proofs.book_rows.copy_some.Given as goal

abbrev pub invariant-loop-i : goal.invariant-loop-i
invariant-loop-i g l = InPart l.fn.shared.table_id l.fn.seat (λ makes. CopiesRow ⊥ part_view makes l.fn.from l.fn.to l.fn.first l.i l.fn.seat l.seat)
