-- The object isn't used any more, and the request is of its pointer.
use Rattle.std.proofs.Common.{◌≡◌}
use Rattle.far_heap.specs.Mine.{dropping}
use Rattle.far_heap.proofs.under_lock.drop_object.Given as goal

abbrev pub invariant-loop : goal.invariant-loop
invariant-loop g l = (goal.iterator-loop g).can_next l.iterator' × (goal.iterator-loop g).is_finite l.iterator' × (l.own ≡ dropping l.fn.p l.fn.own) × (l.asked.pointer ≡ l.fn.p)
