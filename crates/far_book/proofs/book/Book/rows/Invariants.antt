use Rattle.std.proofs.Common.{◌≡◌, ◌≤◌, take, length, vec_len, vec_capacity}
use Rattle.far_book.proofs.book.Book.rows.Given as goal

abbrev pub invariant-loop-row : goal.invariant-loop-row
invariant-loop-row g l = record {
  rows : l.all.items ≡ take l.row-index l.found;
  count : vec_len l.all ≡ l.row-index;
  few : l.row-index ≤ length l.found;
  room : vec_capacity l.all ≡ length l.found;
}
