use Rattle.far_private.specs.FreePointers.{has}
use Rattle.far_private.proofs.FreeWords.{none_summed, set_less}
use Rattle.far_private.proofs.free_pointers.FreePointers.remove.Goals as goal

pub invariant_of-self : goal.invariant_of-self
invariant_of-self c = record { summary_is = none_summed c.args.self.now.words c.args.self.now.summary c.args.pointer c.requires c.args.self.now.summary_is c.if-left-eq0.true }

pub returns-then-left-eq0 : goal.returns-then-left-eq0
unfolding has
returns-then-left-eq0 c p = set_less c.args.self.now.words c.args.self.now.summary c.args.pointer c.requires c.args.self.now.summary_is p

pub returns-else-left-eq0 : goal.returns-else-left-eq0
unfolding has
returns-else-left-eq0 c p = set_less c.args.self.now.words c.args.self.now.summary c.args.pointer c.requires c.args.self.now.summary_is p
