use Rattle.far_pool.proofs.Rooms.{stuck_some}
use Rattle.far_pool.proofs.worker.Worker.alloc.Goals as goal

pub returns-clause-room : goal.returns-clause-room
returns-clause-room g c = stuck_some g.D.Device.writes c.alloc_in.result c.args.self.now c.next_heap.new.self c.in-Some.heap c.next_heap.ensures.same c.alloc_in.ensures.room
