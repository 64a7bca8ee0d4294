use Rattle.std.proofs.Common.{◌≡◌, ◌+◌, ◌≤◌, vec_len, vec_capacity}
use Rattle.far_word.specs.declared.sizes.TheConstants.{MOST_COPIERS}
use Rattle.far_heap.specs.Copiers.{AreFree}
use Rattle.far_heap.proofs.heap.copiers_of.Given as goal

abbrev pub invariant-loop-number : goal.invariant-loop-number
invariant-loop-number g l =
    AreFree g.K.HeapName.heap.table l._number l.seats.items × AreFree g.K.HeapName.heap.table 0 l.copiers.items
    × (vec_len l.seats + l._number ≡ MOST_COPIERS) × (vec_len l.copiers ≡ l._number) × (l.many ≡ l.fn.many) × (l.many ≤ MOST_COPIERS) × (l.many ≤ vec_capacity l.copiers)
