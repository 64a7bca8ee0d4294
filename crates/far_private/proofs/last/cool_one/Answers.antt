use Rattle.far_private.specs.Objects.{state_in}
use Rattle.far_private.proofs.Cooling.{cooled_none}
use Rattle.far_private.proofs.last.cool_one.Goals as goal

pub returns-else-is_hot-clause-cooled : goal.returns-else-is_hot-clause-cooled
returns-else-is_hot-clause-cooled g c = cooled_none (state_in c.args.evac.now) c.args.pointer (c.is_hot.ensures.cold c.if-is_hot.false)
