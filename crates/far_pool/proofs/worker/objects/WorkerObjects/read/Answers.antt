use Rattle.std.proofs.Common.{length, ◌∙◌}
use Rattle.far_private.proofs.ByNumber.{barred_is}
use Rattle.far_pool.specs.Numbers.{held}
use Rattle.far_pool.proofs.worker.objects.WorkerObjects.read.Goals as goal

pub returns-clause-barred : goal.returns-clause-barred
returns-clause-barred g c =
    let w = c.args.self.now in
    λ why q. c.read_held.ensures.barred why (barred_is w.honest (held w c.args.number) c.args.from (length c.args.out.now) c.keeps_law_at.ensures ∙ q)
