use Rattle.far_heap.proofs.Named.{stays_named}
use Rattle.far_heap.proofs.evacuator.Evacuator.evacuate_some.Goals as goal

pub invariant_of-self : goal.invariant_of-self
invariant_of-self g c = stays_named _ c.self.inside.evac c.evacuate_some.new.self c.evacuate_some.ensures.came c.evacuate_some.ensures.copying c.self.invariant
