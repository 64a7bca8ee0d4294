use Rattle.far_private.specs.Objects.{objects_in, state_in}
use Rattle.far_private.proofs.HeapTies.{stays_so}
use Rattle.far_private.proofs.Placing.{keeps_kept}
use Rattle.far_private.proofs.heap.PrivateHeap.make_room.Goals as goal

pub returns-clause-same : goal.returns-clause-same
returns-clause-same g c = stays_so (objects_in c.self.inside.evac) c.args.self.now c.self.view_is (objects_in c.free_logs.new.evac) c.free_logs.ensures.keeps.objects

pub invariant_of-self : goal.invariant_of-self
invariant_of-self g c = (keeps_kept (state_in c.self.inside.evac) (state_in c.free_logs.new.evac) c.self.inside.free c.self.invariant.0 c.free_logs.ensures.keeps, c.free_logs.ensures.idle)
