use Rattle.std.proofs.Common.{sym}
use Rattle.far_backed.specs.Named.{handle_of}
use Rattle.far_backed.proofs.Given.{taken_by}
use Rattle.far_backed.proofs.backed.Backed.write.Goals as goal

pub returns-clause-room : goal.returns-clause-room
returns-clause-room c = taken_by _ (handle_of c.args.number) c.named-handle.result c.args.self.now c.self.inside.worker c.named-handle.ensures (sym c.self.view_is) c.write.ensures.room
