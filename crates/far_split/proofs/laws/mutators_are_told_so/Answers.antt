use Rattle.far_split.proofs.CellsSaid.{mutators_told_so, none_lacks_memory, words_of_objects}
use Rattle.far_split.proofs.laws.mutators_are_told_so.Goals as goal

pub returns : goal.returns
returns c = record { cells = mutators_told_so; words = words_of_objects; memory = none_lacks_memory }
