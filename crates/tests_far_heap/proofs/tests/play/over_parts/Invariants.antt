use Rattle.tests_far_heap.proofs.tests.play.over_parts.Given as goal
use Rattle.far_heap.specs.HeapId.{with_copiers}

abbrev pub ghosts-begin : goal.ghosts-begin
ghosts-begin g a = record { heap = a.blank.heap }

abbrev pub ghosts-begin_with_copiers : goal.ghosts-begin_with_copiers
ghosts-begin_with_copiers g a = record { heap = with_copiers a.blank.heap }
