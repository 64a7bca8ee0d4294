-- Nothing was asked before the second turn.
use Rattle.std.proofs.Common.{◌≡◌, true}
use Rattle.far_heap.specs.Mine.{Asks}
use Rattle.far_heap.proofs.under_lock.view.Given as goal

abbrev pub invariant-loop : goal.invariant-loop
invariant-loop g l = (goal.iterator-loop g).can_next l.iterator' × (goal.iterator-loop g).is_finite l.iterator' × Asks l.fn.p l.fn.own l.own × (l.first ≡ true → l.own ≡ l.fn.own)
