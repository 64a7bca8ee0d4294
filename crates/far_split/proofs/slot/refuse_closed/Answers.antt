use Rattle.far_text.specs.Command.{as_request}
use Rattle.far_split.proofs.Answered.{closed_here}
use Rattle.far_split.proofs.slot.refuse_closed.Goals as goal

pub returns : goal.returns
returns g c = closed_here c.args.mutator.now c.keeps_law.ensures.law c.keeps_law.ensures.closed (as_request c.args.request) c.requires.wants
