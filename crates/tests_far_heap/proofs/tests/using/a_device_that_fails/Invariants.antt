use Rattle.tests_far_heap.proofs.tests.using.a_device_that_fails.Given as goal

abbrev pub ghosts-over_a_device : goal.ghosts-over_a_device
ghosts-over_a_device g a = record { heap = a.blank.heap }
