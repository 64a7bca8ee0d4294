use Rattle.far_book.proofs.number_set.NumberSet.insert.Goals as goal
use Rattle.far_book.proofs.region.NumberSets.{has_more}

pub returns : goal.returns
returns c i = has_more c.args.self.now.word c.args.k i c.requires
