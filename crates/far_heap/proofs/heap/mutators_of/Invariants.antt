use Rattle.std.proofs.Common.{◌≡◌, ◌+◌, ◌≤◌, vec_len, vec_capacity}
use Rattle.far_heap.specs.Blanks.{AreNew, first_newcomers}
use Rattle.far_heap.proofs.heap.mutators_of.Given as goal

abbrev pub invariant-loop-number : goal.invariant-loop-number
invariant-loop-number g l =
    AreNew g.K.HeapName.heap.table g.K.HeapName.heap.honest l.number l.seats.items
    × (l.mutators.items ≡ first_newcomers g.K.HeapName.heap.table g.K.HeapName.heap.honest l.number)
    × (vec_len l.seats + l.number ≡ vec_len l.fn.seats) × (vec_len l.mutators ≡ l.number) × (l.many ≡ vec_len l.fn.seats) × (l.many ≤ vec_capacity l.mutators)
