use Rattle.std.proofs.Common.{length, arith}
use Rattle.far_pool.proofs.Rooms.{stuck_at}
use Rattle.far_pool.proofs.Workers.{updated_at}
use Rattle.far_pool.proofs.worker.Worker.update.Goals as goal

pub returns-clause-changed : goal.returns-clause-changed
returns-clause-changed g c =
    updated_at c.self.inside.parts.honest c.self.inside.parts.logs c.self.inside.parts.shelves.items c.args.self.now c.self.view_is c.args.handle c.index_mut.result.now c.update.new.self (omega arith) c.index_mut.ensures.value
    c.update.result _ c.args.from (length c.args.bytes.now) c.update.new.bytes c.update.ensures.changed c.update.ensures.known

pub returns-clause-room : goal.returns-clause-room
returns-clause-room g c =
    stuck_at g.D.Device.writes c.self.inside.parts.honest c.self.inside.parts.logs c.self.inside.parts.shelves.items c.args.self.now c.self.view_is c.args.handle.heap c.index_mut.result.now (omega arith) c.index_mut.ensures.value
    c.self.invariant.0 c.update.result c.update.ensures.room
