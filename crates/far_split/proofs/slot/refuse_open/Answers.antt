use Rattle.far_split.proofs.Answered.{open_here}
use Rattle.far_split.proofs.slot.refuse_open.Goals as goal

pub returns : goal.returns
returns g c = open_here c.args.scope.now c.keeps_law.ensures.law c.keeps_law.ensures.opened
