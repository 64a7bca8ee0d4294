use Rattle.refuse_far_heap.proofs.played.Given as goal
use Rattle.far_heap.specs.HeapId.{with_copiers}

abbrev pub ghosts-alone : goal.ghosts-alone
ghosts-alone g a = record { heap = a.blank.heap }

abbrev pub ghosts-copied : goal.ghosts-copied
ghosts-copied g a = record { heap = with_copiers a.blank.heap }
