use Rattle.std.proofs.Common.{◌≡◌, sym, subst}
use Rattle.far_objects.specs.Far.{Makes}
use Rattle.far_private.specs.Heap.{IsWell}
use Rattle.far_pool.specs.Numbers.{far_of, held}
use Rattle.far_pool.proofs.Numbering.{makes_far}
use Rattle.far_pool.proofs.worker.objects.WorkerObjects.alloc.Goals as goal

pub returns-in-Ok-clause-made : goal.returns-in-Ok-clause-made
returns-in-Ok-clause-made g c =
    let w = c.args.self.now in
    let v = c.alloc.new.self in
    let e = c.number_of-number.ensures in
    subst (λ n. Makes n c.args.bytes.now (far_of w) (far_of v)) (sym e)
    (makes_far w v c.in-Ok.handle c.in-Ok.ensures.inside.1 0 c.args.bytes.now c.in-Ok.ensures.made (subst (λ n. IsWell v.honest (held v n)) e c.keeps_law_at.ensures))
