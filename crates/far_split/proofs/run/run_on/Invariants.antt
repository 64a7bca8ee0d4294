use Rattle.far_split.proofs.run.run_on.Given as goal

abbrev pub ghosts-run_named : goal.ghosts-run_named
ghosts-run_named g a = record { heap = a.blank.heap }
