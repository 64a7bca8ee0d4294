use Rattle.far_private.specs.Objects.{state_in}
use Rattle.far_private.proofs.Lawful.{lawful_so}
use Rattle.far_private.proofs.heap.PrivateHeap.keeps_law.Goals as goal

pub returns : goal.returns
returns g c = record { law = lawful_so (state_in c.self.inside.evac) c.self.inside.evac.book.near.core.law c.self.invariant.0.settled c.args.self.now c.self.view_is }
