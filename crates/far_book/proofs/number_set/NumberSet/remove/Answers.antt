use Rattle.far_book.proofs.number_set.NumberSet.remove.Goals as goal
use Rattle.far_book.proofs.region.NumberSets.{has_less}

pub returns : goal.returns
returns c i = has_less c.args.self.now.word c.args.k i c.requires
