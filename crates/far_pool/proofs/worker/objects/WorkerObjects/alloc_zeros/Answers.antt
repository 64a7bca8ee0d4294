use Rattle.std.proofs.Common.{◌≡◌, replicate, sym, subst, arith}
use Rattle.far_objects.specs.Far.{Makes}
use Rattle.far_private.specs.Heap.{IsWell}
use Rattle.far_pool.specs.Numbers.{far_of, held}
use Rattle.far_pool.specs.Pool.{place_of}
use Rattle.far_pool.proofs.Numbering.{zeros_far}
use Rattle.far_pool.proofs.worker.objects.WorkerObjects.alloc_zeros.Goals as goal

pub returns-in-Ok-alloc_zeros-clause-made : goal.returns-in-Ok-alloc_zeros-clause-made
returns-in-Ok-alloc_zeros-clause-made g c =
    let w = c.args.self.now in
    let v = c.alloc_zeros.new.self in
    let e = c.number_of-number.ensures in
    let same : c.in-Ok.short ≡ c.args.len = omega (arith, c.in-Ok.ensures) in
    subst (λ n. Makes n (replicate c.args.len 0) (far_of w) (far_of v)) (sym e)
    (subst (λ k. Makes (place_of c.in-Ok-alloc_zeros.handle) (replicate k 0) (far_of w) (far_of v)) same
    (zeros_far w v c.in-Ok-alloc_zeros.handle c.in-Ok-alloc_zeros.ensures.inside.1 c.in-Ok.short 0 c.in-Ok-alloc_zeros.ensures.made (subst (λ n. IsWell v.honest (held v n)) e c.keeps_law_at.ensures)))
