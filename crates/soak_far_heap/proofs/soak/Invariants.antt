use Rattle.soak_far_heap.proofs.soak.Given as goal
use Rattle.far_heap.specs.HeapId.{with_copiers}

abbrev pub ghosts-beside : goal.ghosts-beside
ghosts-beside g a = record { heap = a.blank.heap }

abbrev pub ghosts-copied : goal.ghosts-copied
ghosts-copied g a = record { heap = with_copiers a.blank.heap }
