use Rattle.std.proofs.Common.{◌∙◌, sym, ap, subst, arith}
use Rattle.far_table.specs.CopySeats.{CopiedNext, CopyJob, IsJobOf, copied_on, job_kept}
use Rattle.far_table.specs.Seats.{CopierSeated}
use Rattle.far_table.specs.Tells.{copier_of}
use Rattle.far_table.specs.View.{View}
use Rattle.far_table.proofs.CopySeatLemmas.{copied_next, copier_stays, got_on, job_fits, kept_on, len, next_from, next_to, own_here, own_on, some_left, task_on}
use Rattle.far_table.proofs.CopySteps.{reads_source, writes_target}
use Rattle.far_table.proofs.SeatLemmas.{inside}
use Rattle.far_table.proofs.copy_seat.CopySeat.copy_word.Goals as goal

pub load-word-requires : goal.load-word-requires
load-word-requires g c =
    let i = c.self.invariant in
    let k = c.job.invariant in
    let job = job_kept c.job.inside.at c.job.inside.offered c.job.inside.from c.job.inside.end in
    let own = own_here c.job.view_is c.self.view_is c.requires.own in
    let from = next_from _ _ _ _ _ k in
    let fits = (job_fits _ job own i.6).2 in
    let left = some_left _ _ _ _ _ k c.if-job.false in
    let long = len _ job own in let words = long.2 in
    let t = inside _ _ _ c.job.inside.from i.0 (ap (λ t. t.shared.table_id) c.deref.ensures) i.1 (omega (arith, from, fits, left)) in
    (t.0, t.1, reads_source _ _ _ i.2 job.task own.task long.0 job.copied _ long.1 (omega (arith, left, words)) from)

pub store-requires : goal.store-requires
store-requires g c =
    let i = c.self.invariant in
    let k = c.job.invariant in
    let job = job_kept c.job.inside.at c.job.inside.offered c.job.inside.from c.job.inside.end in
    let own = own_here c.job.view_is c.self.view_is c.requires.own in
    let to = next_to _ _ _ _ _ k in
    let fits = (job_fits _ job own i.6).3 in
    let left = some_left _ _ _ _ _ k c.if-job.false in
    let h = c.load-word.ensures in
    let r = h.2 job.copied job.task own.task (next_from _ _ _ _ _ k) in
    let s = copier_stays _ _ _ _ _ _ _ _ _ _ i h.0 r in
    let many = ap (λ (z : View). (copier_of z).logs) r.after_is in
    let t = inside _ _ _ c.job.inside.to s.0 (ap (λ t. t.shared.table_id) c.deref-2.ensures) s.1 (omega (arith, to, fits, left, many)) in
    (t.0, t.1, writes_target _ _ _ s.2 job.task (task_on _ _ job own _ r) job.copied _ _ (got_on _ _ job own _ r) to)

pub overflow_add-job-2 : goal.overflow_add-job-2
overflow_add-job-2 g c =
    let job = job_kept c.job.inside.at c.job.inside.offered c.job.inside.from c.job.inside.end in
    let own = own_here c.job.view_is c.self.view_is c.requires.own in
    omega (arith, next_to _ _ _ _ _ c.job.invariant, (job_fits _ job own c.self.invariant.6).1, some_left _ _ _ _ _ c.job.invariant c.if-job.false)

pub invariant_of-self : goal.invariant_of-self
invariant_of-self g c =
    let k = c.job.invariant in
    let job = job_kept c.job.inside.at c.job.inside.offered c.job.inside.from c.job.inside.end in
    let own = own_here c.job.view_is c.self.view_is c.requires.own in
    let h = c.load-word.ensures in
    let r = h.2 job.copied job.task own.task (next_from _ _ _ _ _ k) in
    copier_stays _ _ _ _ _ _ _ _ _ _ (copier_stays _ _ _ _ _ _ _ _ _ _ c.self.invariant h.0 r) c.store.ensures.0 (c.store.ensures.2 job.copied job.task (task_on _ _ job own _ r) (next_to _ _ _ _ _ k))

pub returns-clause-own : goal.returns-clause-own
returns-clause-own g c =
    let k = c.job.invariant in
    let job = job_kept c.job.inside.at c.job.inside.offered c.job.inside.from c.job.inside.end in
    let own = own_here c.job.view_is c.self.view_is c.requires.own in
    let r = c.load-word.ensures.2 job.copied job.task own.task (next_from _ _ _ _ _ k) in
    subst (λ (z : CopyJob). IsJobOf z (copier_of c.store.new.seat.me.0)) (sym (kept_on _ _ _ _ _ k))
    (own_on _ _ job own _ r _ (c.store.ensures.2 job.copied job.task (task_on _ _ job own _ r) (next_to _ _ _ _ _ k)) (omega (arith, some_left _ _ _ _ _ k c.if-job.false)))

pub returns-clause-copied : goal.returns-clause-copied
returns-clause-copied g c = λ _.
    let k = c.job.invariant in
    let job = job_kept c.job.inside.at c.job.inside.offered c.job.inside.from c.job.inside.end in
    let own = own_here c.job.view_is c.self.view_is c.requires.own in
    let r = c.load-word.ensures.2 job.copied job.task own.task (next_from _ _ _ _ _ k) in (
      kept_on _ _ _ _ _ k ∙ ap copied_on c.job.view_is,
      subst (λ (z : CopyJob × CopierSeated). CopiedNext z.0 z.1.view (copier_of c.store.new.seat.me.0)) (λ i. (c.job.view_is i, c.self.view_is i))
          (copied_next _ _ job own _ r _ (c.store.ensures.2 job.copied job.task (task_on _ _ job own _ r) (next_to _ _ _ _ _ k))),
    )
