use Rattle.far_heap.proofs.Named.{stays_named}
use Rattle.far_heap.proofs.evacuator.Evacuator.abort.Goals as goal

pub invariant_of-self : goal.invariant_of-self
invariant_of-self g c = stays_named _ c.self.inside.evac c.abort.new.self c.abort.ensures.came c.abort.ensures.copying c.self.invariant
