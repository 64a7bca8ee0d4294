-- Each pointer so far is used.
use Rattle.std.proofs.Common.{◌≡◌, ◌+◌, ◌<◌, ◌≤◌, ℕ, true}
use Rattle.far_heap.specs.Mine.{uses}
use Rattle.far_heap.proofs.own.Own.has_left.Given as goal

abbrev pub invariant-loop-cell : goal.invariant-loop-cell
invariant-loop-cell g l = (p : ℕ) → l.first ≤ p → p < l.first + l.cell → uses l.self p ≡ true
