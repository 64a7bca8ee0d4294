use Rattle.std.proofs.Common.{◌*◌}
use Rattle.far_word.specs.Bytes.{packed_word}
use Rattle.far_hand.specs.Ranges.{WritesRow}
use Rattle.far_table.specs.BookRows.{InPart, part_view}
use Rattle.far_table.proofs.book_rows.put_all.Given as goal

abbrev pub invariant-loop-i : goal.invariant-loop-i
invariant-loop-i g l = InPart l.fn.shared.table_id l.fn.seat (λ makes. WritesRow ⊥ part_view makes l.fn.log l.fn.at (packed_word l.fn.bytes) 0 (8 * l.i) l.fn.seat l.seat)
