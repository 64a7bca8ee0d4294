use Rattle.std.proofs.Common.{◌∙◌, refl, sym, ap, subst, arith}
use Rattle.far_hand.specs.FindsJob.{FindsJob}
use Rattle.far_hand.proofs.Offering.{collect_empties}
use Rattle.far_table.specs.BookViews.{saw_job_view}
use Rattle.far_table.specs.Stands.{book_of}
use Rattle.far_table.specs.StateOf.{book_state}
use Rattle.far_table.proofs.BookJobs.{collects}
use Rattle.far_table.proofs.BookSeatLemmas.{seat_keeps, seat_made, view_is}
use Rattle.far_table.proofs.Exchanges.{book_lost, book_won}
use Rattle.far_table.proofs.SeatLemmas.{job_inside}
use Rattle.far_table.proofs.book_hand.BookSeatNear.collect.Goals as goal

pub compare_exchange-found-requires : goal.compare_exchange-found-requires
compare_exchange-found-requires g c =
    let i = c.args.self.now.fits in
    let t = job_inside _ _ _ c.args.job i.same (ap (λ t. t.shared.table_id) c.deref.ensures) i.wide c.requires.legal.0 (omega arith) in
    (t.0, t.1, collects _ _ _ i.is_book i.plain c.args.job c.args.old c.ranges.old.fits c.requires.legal)

pub invariant_of-self : goal.invariant_of-self
invariant_of-self g c =
    let i = c.args.self.now.fits in
    let h = c.compare_exchange-found.ensures in
    let k = seat_keeps _ _ _ _ _ (h.2 c.args.job refl).1 _ _ _ _ _ _ i h.0 refl refl refl refl i.plain in record { fits = k.0; stands = k.1 }

pub returns-then-old-found-clause-done : goal.returns-then-old-found-clause-done
returns-then-old-found-clause-done g c =
    let t = book_won (λ w. saw_job_view c.args.job w (book_of c.args.self.now.seat.me.0)) 0 c.compare_exchange-found.result (c.compare_exchange-found.ensures.2 c.args.job refl).1 (sym c.if-old-found.true) in
    ap book_state (view_is _ _ _ _ _ t) ∙ sym (collect_empties (book_state (book_of c.args.self.now.seat.me.0)) c.args.job c.args.old (sym c.requires.seen))

pub returns-then-old-found-clause-made : goal.returns-then-old-found-clause-made
returns-then-old-found-clause-made g c = (
  c.compare_exchange-found.ensures.0,
  seat_made _ _ _ _ _ (book_won (λ w. saw_job_view c.args.job w (book_of c.args.self.now.seat.me.0)) 0 c.compare_exchange-found.result (c.compare_exchange-found.ensures.2 c.args.job refl).1 (sym c.if-old-found.true)),
)

pub returns-else-old-found-clause-kept : goal.returns-else-old-found-clause-kept
returns-else-old-found-clause-kept g c =
    ap book_state (view_is _ _ _ _ _ (book_lost (λ w. saw_job_view c.args.job w (book_of c.args.self.now.seat.me.0)) 0 c.compare_exchange-found.result (c.compare_exchange-found.ensures.2 c.args.job refl).1 (λ e. c.if-old-found.false (sym e))))

pub returns-else-old-found-clause-other : goal.returns-else-old-found-clause-other
returns-else-old-found-clause-other g c = λ e. c.if-old-found.false (sym e)

pub returns-else-old-found-clause-found : goal.returns-else-old-found-clause-found
returns-else-old-found-clause-found g c = subst (λ v. FindsJob v c.compare_exchange-found.result) (sym c.requires.seen) (c.compare_exchange-found.ensures.2 c.args.job refl).0

pub returns-else-old-found-clause-lost : goal.returns-else-old-found-clause-lost
returns-else-old-found-clause-lost g c = (
  c.compare_exchange-found.ensures.0,
  seat_made _ _ _ _ _ (book_lost (λ w. saw_job_view c.args.job w (book_of c.args.self.now.seat.me.0)) 0 c.compare_exchange-found.result (c.compare_exchange-found.ensures.2 c.args.job refl).1 (λ e. c.if-old-found.false (sym e))),
)
