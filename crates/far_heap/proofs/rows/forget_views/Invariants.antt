-- There are as many rows. Those below the index were viewed by no scope, and are else as they were; the others are as they were.
use Rattle.std.proofs.Common.{◌≡◌, ℕ, ◌<◌, ◌≤◌, length}
use Rattle.far_heap.specs.Rows.{row_in}
use Rattle.far_heap.proofs.rows.forget_views.Given as goal

abbrev pub invariant-loop-i : goal.invariant-loop-i
invariant-loop-i l = record {
  many : length l.each ≡ length l.fn.each;
  below : (k : ℕ) → k < l.i → row_in l.each k ≡ record (row_in l.fn.each k) { viewed = 0 };
  rest : (k : ℕ) → l.i ≤ k → row_in l.each k ≡ row_in l.fn.each k;
}
