-- There are as many counts, and those below the index are 0.
use Rattle.std.proofs.Common.{◌≡◌, ℕ, ◌<◌, get_or, length}
use Rattle.far_heap.proofs.rows.forget_soils.Given as goal

abbrev pub invariant-loop-i : goal.invariant-loop-i
invariant-loop-i l = record {
  many : length l.soiled ≡ length l.fn.soiled;
  zeros : (k : ℕ) → k < l.i → get_or l.soiled k 0 ≡ 0;
}
