use Rattle.std.proofs.Common.{sym, ap, subst, arith}
use Rattle.far_table.specs.CopySeats.{IsCopied, job_kept}
use Rattle.far_table.proofs.CopySeatLemmas.{all_written, copier_stays, len, own_here, staged_word, task_within, word_stands}
use Rattle.far_table.proofs.CopySteps.{finishes}
use Rattle.far_table.proofs.SeatLemmas.{inside}
use Rattle.far_table.proofs.copy_seat.CopySeat.finish.Goals as goal

pub overflow_add-job-inside : goal.overflow_add-job-inside
overflow_add-job-inside g c = let i = c.self.invariant in let fits = (staged_word c.job.inside.offered _ _ 2 c.job.invariant.offers i.5 (omega arith) i.4).1 in omega (arith, fits)

pub store-requires : goal.store-requires
store-requires g c =
    let i = c.self.invariant in
    let k = c.job.invariant in
    let job = job_kept c.job.inside.at c.job.inside.offered c.job.inside.from c.job.inside.end in
    let own = own_here c.job.view_is c.self.view_is c.requires.own in
    let whole = subst IsCopied (sym c.job.view_is) c.requires.whole in
    let here = word_stands _ _ _ _ _ k in
    let low = (task_within _ job.task i.6 own.task).0 in
    let t = inside _ _ _ c.job.inside.at i.0 (ap (λ t. t.shared.table_id) c.deref.ensures) i.1 (omega (arith, here, low)) in
    (t.0, t.1, finishes _ _ _ i.2 job.task own.task (len _ job own).0 _ _ (len _ job own).1 (all_written _ job own whole) (staged_word _ _ _ 2 k.offers i.5 (omega arith) i.4).0 here)

pub invariant_of-self : goal.invariant_of-self
invariant_of-self g c = let h = c.store.ensures in copier_stays _ _ _ _ _ _ _ _ _ _ c.self.invariant h.0 h.2
