use Rattle.far_heap.proofs.Named.{stays_named}
use Rattle.far_heap.proofs.evacuator.Evacuator.poll_wait.Goals as goal

pub invariant_of-self : goal.invariant_of-self
invariant_of-self g c = stays_named _ c.self.inside.evac c.poll_wait.new.self c.poll_wait.ensures.came c.poll_wait.ensures.copying c.self.invariant
