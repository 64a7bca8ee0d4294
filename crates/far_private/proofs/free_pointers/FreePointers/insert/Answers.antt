use Rattle.far_private.specs.FreePointers.{has}
use Rattle.far_private.proofs.FreeWords.{more_summed, set_more}
use Rattle.far_private.proofs.free_pointers.FreePointers.insert.Goals as goal

pub invariant_of-self : goal.invariant_of-self
invariant_of-self c = record { summary_is = more_summed c.args.self.now.words c.args.self.now.summary c.args.pointer c.requires c.args.self.now.summary_is }

pub returns : goal.returns
unfolding has
returns c p = set_more c.args.self.now.words c.args.self.now.summary c.args.pointer c.requires c.args.self.now.summary_is p
