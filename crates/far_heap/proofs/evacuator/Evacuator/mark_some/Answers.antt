use Rattle.far_heap.proofs.Named.{stays_named}
use Rattle.far_heap.proofs.evacuator.Evacuator.mark_some.Goals as goal

pub invariant_of-self : goal.invariant_of-self
invariant_of-self g c = stays_named _ c.self.inside.evac c.mark_some.new.self c.mark_some.ensures.came c.mark_some.ensures.copying c.self.invariant
