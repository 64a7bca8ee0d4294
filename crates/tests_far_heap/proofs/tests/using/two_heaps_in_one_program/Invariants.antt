use Rattle.tests_far_heap.proofs.tests.using.two_heaps_in_one_program.Given as goal

abbrev pub ghosts-two_heaps-K-HeapName : goal.ghosts-two_heaps-K-HeapName
ghosts-two_heaps-K-HeapName g a = record { heap = a.blanks.0.heap }

abbrev pub ghosts-two_heaps-L-HeapName : goal.ghosts-two_heaps-L-HeapName
ghosts-two_heaps-L-HeapName g a = record { heap = a.blanks.1.heap }
