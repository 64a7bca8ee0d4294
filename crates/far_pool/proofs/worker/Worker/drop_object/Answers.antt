use Rattle.std.proofs.Common.{arith}
use Rattle.far_pool.proofs.Workers.{dropped_at}
use Rattle.far_pool.proofs.worker.Worker.drop_object.Goals as goal

pub returns-then-was_full-clause-dropped : goal.returns-then-was_full-clause-dropped
returns-then-was_full-clause-dropped g c =
    let k = c.in-Ok.ensures.known in
    let d = c.in-Ok.ensures.dropped in
    dropped_at c.self.inside.parts.honest c.self.inside.parts.logs c.self.inside.parts.shelves.items c.args.self.now c.self.view_is c.args.handle c.index_mut.result.now c.drop_object.new.self (omega arith) c.index_mut.ensures.value k.0 k.1 k.2 d.0 d.1

pub returns-else-was_full-clause-dropped : goal.returns-else-was_full-clause-dropped
returns-else-was_full-clause-dropped g c =
    let k = c.in-Ok.ensures.known in
    let d = c.in-Ok.ensures.dropped in
    dropped_at c.self.inside.parts.honest c.self.inside.parts.logs c.self.inside.parts.shelves.items c.args.self.now c.self.view_is c.args.handle c.index_mut.result.now c.drop_object.new.self (omega arith) c.index_mut.ensures.value k.0 k.1 k.2 d.0 d.1
