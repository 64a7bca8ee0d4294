use Rattle.std.proofs.Common.{arith}
use Rattle.far_private.specs.Objects.{rewritten}
use Rattle.far_pool.proofs.Rooms.{stuck_at}
use Rattle.far_pool.proofs.Workers.{wrote_at}
use Rattle.far_pool.proofs.worker.Worker.write.Goals as goal

pub returns-clause-written : goal.returns-clause-written
returns-clause-written g c =
    wrote_at c.self.inside.parts.honest c.self.inside.parts.logs c.self.inside.parts.shelves.items c.args.self.now c.self.view_is c.args.handle c.index_mut.result.now c.write.new.self (omega arith) c.index_mut.ensures.value
    c.write.result (rewritten c.args.from c.args.bytes.now) c.write.ensures.written c.write.ensures.known

pub returns-clause-room : goal.returns-clause-room
returns-clause-room g c =
    stuck_at g.D.Device.writes c.self.inside.parts.honest c.self.inside.parts.logs c.self.inside.parts.shelves.items c.args.self.now c.self.view_is c.args.handle.heap c.index_mut.result.now (omega arith) c.index_mut.ensures.value
    c.self.invariant.0 c.write.result c.write.ensures.room
