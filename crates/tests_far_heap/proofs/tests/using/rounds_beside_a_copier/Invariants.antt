use Rattle.far_heap.specs.HeapId.{with_copiers}
use Rattle.tests_far_heap.proofs.tests.using.rounds_beside_a_copier.Given as goal

abbrev pub ghosts-with_a_copier : goal.ghosts-with_a_copier
ghosts-with_a_copier g a = record { heap = with_copiers a.blank.heap }
