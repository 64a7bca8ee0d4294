use Rattle.keep_room.proofs.main.Given as goal

abbrev pub ghosts-begins : goal.ghosts-begins
ghosts-begins g a = record { heap = a.blank.heap }
