use Rattle.std.proofs.Common.{◌∙◌, ℕ, suc, refl, ap, subst}
use Rattle.far_table.specs.CopySeats.{CopiedNext, CopyJob, copied_on}
use Rattle.far_heap.proofs.copier.Copying.finish.Goals as goal

pub loop-preserved : goal.loop-preserved
loop-preserved g c =
    let i = c.loop.invariant in
    let n : ℕ = i.2.0 in
    let e = c.loop-test.ensures in
    let step = e.copied refl in (
      e.table ∙ i.0,
      e.own,
      (suc n, step.0 ∙ ap copied_on i.2.1, (c.loop.seat.view, i.2.2, subst (λ (j : CopyJob). CopiedNext j c.loop.seat.view c.copy_word.new.self.view) i.2.1 step.1)),
    )
