use Rattle.tests_far_heap.proofs.tests.readme.readme.Given as goal

abbrev pub ghosts-begins : goal.ghosts-begins
ghosts-begins g a = record { heap = a.blank.heap }
