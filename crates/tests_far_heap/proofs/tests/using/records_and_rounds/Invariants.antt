use Rattle.tests_far_heap.proofs.tests.using.records_and_rounds.Given as goal

abbrev pub ghosts-one_heap : goal.ghosts-one_heap
ghosts-one_heap g a = record { heap = a.blank.heap }
