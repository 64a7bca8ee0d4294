use Rattle.std.proofs.Common.{sym}
use Rattle.far_backed.proofs.Given.{stuck_by}
use Rattle.far_backed.proofs.backed.Backed.make.Goals as goal

pub returns-clause-room : goal.returns-clause-room
returns-clause-room c = stuck_by _ c.args.self.now c.self.inside.worker (sym c.self.view_is) c.alloc.ensures.room
