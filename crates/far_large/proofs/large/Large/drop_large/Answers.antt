use Rattle.std.proofs.Common.{sym, ◌∙◌, ap, arith}
use Rattle.far_large.proofs.Reading.{there_at}
use Rattle.far_large.proofs.large.Large.drop_large.Goals as goal

pub drop_first-requires-clause-there : goal.drop_first-requires-clause-there
drop_first-requires-clause-there g c = there_at (g.O.Objects.far c.args.worker.now) c.args.self c.as_slice.result.now c.len.result c.if-not-is_held.ensures
    (sym (ap (λ p. p.numbers) c.self.view_is) ∙ sym c.as_slice.ensures.value) (omega (arith, c.as_slice.ensures.len))
