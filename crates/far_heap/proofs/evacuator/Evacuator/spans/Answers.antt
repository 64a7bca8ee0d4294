use Rattle.far_heap.proofs.Named.{stays_named}
use Rattle.far_heap.proofs.evacuator.Evacuator.spans.Goals as goal

pub invariant_of-self : goal.invariant_of-self
invariant_of-self g c = stays_named _ c.self.inside.evac c.spans.new.self c.spans.ensures.listed.came c.spans.ensures.round.2 c.self.invariant
