use Rattle.std.proofs.Common.{◌≡◌, length, ◌∙◌, arith}
use Rattle.far_private.proofs.ByNumber.{barred_at}
use Rattle.far_private.proofs.objects.PrivateHeapObjects.write.Goals as goal

pub returns-in-Err-clause-barred : goal.returns-in-Err-clause-barred
returns-in-Err-clause-barred g c =
    let same : c.in-Ok.pointer ≡ c.args.number = omega (arith, c.in-Ok.ensures) in
    λ why e. c.in-Err.ensures.barred why (barred_at c.args.self.now c.keeps_law.ensures.law c.in-Ok.pointer c.args.number same c.args.from (length c.args.bytes.now) ∙ e)
