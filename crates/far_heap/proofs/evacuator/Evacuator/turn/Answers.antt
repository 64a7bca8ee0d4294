use Rattle.far_heap.proofs.Named.{stays_named}
use Rattle.far_heap.proofs.evacuator.Evacuator.turn.Goals as goal

pub invariant_of-self : goal.invariant_of-self
invariant_of-self g c = stays_named _ c.self.inside.evac c.turn.new.self c.turn.ensures.came c.turn.ensures.copying c.self.invariant
