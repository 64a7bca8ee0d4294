use Rattle.std.proofs.Common.{◌≡◌, length, ◌∙◌, arith}
use Rattle.far_private.proofs.ByNumber.{barred_at}
use Rattle.far_private.proofs.objects.PrivateHeapObjects.read.Goals as goal

pub returns-clause-barred : goal.returns-clause-barred
returns-clause-barred g c =
    let same : c.in-Ok.pointer ≡ c.args.number = omega (arith, c.in-Ok.ensures) in
    λ why e. c.read.ensures.barred why (barred_at c.args.self.now c.keeps_law.ensures.law c.in-Ok.pointer c.args.number same c.args.from (length c.args.out.now) ∙ e)
