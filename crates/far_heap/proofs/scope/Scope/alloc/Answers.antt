use Rattle.std.proofs.Common.{subst}
use Rattle.far_heap.specs.Mine.{Mine}
use Rattle.far_heap.specs.BookHad.{Allocates}
use Rattle.far_heap.proofs.scope.Scope.alloc.Goals as goal

pub returns : goal.returns
returns g c = subst (λ (m : Mine). Allocates g.row.D.Denot g.K.HeapName.heap m c.alloc.new.own c.args.len c.args.ds c.alloc.result) c.self.view_is c.alloc.ensures
