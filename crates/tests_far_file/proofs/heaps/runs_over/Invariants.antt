use Rattle.tests_far_file.proofs.heaps.runs_over.Given as goal

abbrev pub ghosts-runs : goal.ghosts-runs
ghosts-runs g a = record { heap = a.blank.heap }
