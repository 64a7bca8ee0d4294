use Rattle.std.proofs.Common.{◌≡◌, ◌+◌, ◌*◌, ◌<◌, ◌≤◌, None}
use Rattle.far_word.specs.declared.sizes.TheConstants.{POINTERS}
use Rattle.far_pool.specs.Pool.{at, place_of}
use Rattle.far_pool.specs.declared.handle.Handle.{Handle}
use Rattle.far_pool.proofs.worker.Worker.first_from.Given as goal

abbrev pub invariant-loop-heap : goal.invariant-loop-heap
invariant-loop-heap g l = record {
  inside : l.from < POINTERS;
  begun : l.place ≤ l.heap * POINTERS + l.from;
  before : (k : Handle) → k.pointer < POINTERS → l.place ≤ place_of k → place_of k < l.heap * POINTERS + l.from → at l.self k ≡ None;
}
