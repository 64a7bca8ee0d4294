use Rattle.far_dict.proofs.each.visit_long.Goals as goal

pub visit-requires-clause-whole : goal.visit-requires-clause-whole
visit-requires-clause-whole g c = c.requires.sound.whole
