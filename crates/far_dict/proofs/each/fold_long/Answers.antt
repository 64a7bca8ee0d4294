use Rattle.far_dict.proofs.each.fold_long.Goals as goal

pub fold-requires-clause-whole : goal.fold-requires-clause-whole
fold-requires-clause-whole g c = c.requires.sound.whole
