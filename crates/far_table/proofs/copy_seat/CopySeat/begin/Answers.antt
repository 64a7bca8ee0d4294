use Rattle.std.proofs.Common.{◌≡◌, ◌+◌, Some, sym, ap, subst, arith}
use Rattle.far_events.specs.state.State.{addr}
use Rattle.far_table.specs.CopySeats.{task_of}
use Rattle.far_table.specs.Layout.{LOGS_AT, data_at}
use Rattle.far_table.specs.Seats.{CopierSeated}
use Rattle.far_table.proofs.CopySeatLemmas.{copier_stays, task_within}
use Rattle.far_table.proofs.CopySteps.{measures}
use Rattle.far_table.proofs.SeatLemmas.{inside}
use Rattle.far_table.proofs.copy_seat.CopySeat.begin.Goals as goal

pub load-head-requires : goal.load-head-requires
load-head-requires g c =
    let i = c.self.invariant in
    let task = task_of c.args.number c.args.offered in
    let own = subst (λ (z : CopierSeated). z.view.task ≡ Some task) (sym c.self.view_is) c.requires.own in
    let from = (task_within _ task i.6 own).1 in
    let here : c.source_of-source.result + LOGS_AT ≡ data_at (addr task.job.from) = ap (λ n. n + LOGS_AT) c.source_of-source.ensures in
    let t = inside _ _ _ (c.source_of-source.result + LOGS_AT) i.0 (ap (λ t. t.shared.table_id) c.deref.ensures) i.1 (omega (arith, from, here)) in
    (t.0, t.1, measures _ _ _ i.2 task own _ here)

pub invariant_of-self : goal.invariant_of-self
invariant_of-self g c = let h = c.load-head.ensures in copier_stays _ _ _ _ _ _ _ _ _ _ c.self.invariant h.0 h.2.1
