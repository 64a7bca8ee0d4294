use Rattle.std.proofs.Common.{◌∙◌, ap, sym}
use Rattle.far_private.specs.Heap.{size_of}
use Rattle.far_private.specs.Objects.{objects_in, state_in}
use Rattle.far_private.proofs.HeapTies.{object_so}
use Rattle.far_private.proofs.Lawful.{ends}
use Rattle.far_private.proofs.heap.PrivateHeap.len_of.Goals as goal

pub returns : goal.returns
returns g c = c.len_of.ensures ∙ ap size_of (sym (object_so (objects_in c.self.inside.evac) c.args.self.now c.self.view_is (ends (state_in c.self.inside.evac) c.self.inside.evac.book.near.core.law c.self.invariant.0.settled) c.args.pointer))
