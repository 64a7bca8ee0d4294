use Rattle.far_pool.proofs.Numbering.{dropped_far, not_dropped}
use Rattle.far_pool.proofs.worker.objects.WorkerObjects.drop_object.Goals as goal

pub returns-clause-dropped : goal.returns-clause-dropped
returns-clause-dropped g c =
    dropped_far c.args.self.now c.args.number c.handle_at-handle.result c.handle_at-handle.ensures c.keeps_law_at.ensures c.drop_object.new.self c.drop_object.result c.drop_object.ensures.dropped

pub returns-clause-refused : goal.returns-clause-refused
returns-clause-refused g c =
    not_dropped c.args.self.now c.args.number c.handle_at-handle.result c.handle_at-handle.ensures c.keeps_law_at.ensures c.drop_object.new.self c.drop_object.result c.drop_object.ensures.refused
