use Rattle.std.proofs.Common.{◌≡◌, map, take}
use Rattle.far_book.specs.book.Order.{still_in}
use Rattle.far_book.specs.book.Rows.{row_of}
use Rattle.far_book.proofs.book.Book.log_rows.Given as goal

abbrev pub invariant-loop-log : goal.invariant-loop-log
invariant-loop-log g l = record { rows : l.rows ≡ map (row_of (g.N.Near.view l.self-inside.near)) (still_in l.gone (take l.log-index l.listed)) }
