use Rattle.std.proofs.Common.{refl, ap, arith}
use Rattle.far_table.specs.StateOf.{book_state}
use Rattle.far_table.proofs.BookJobs.{sees_job}
use Rattle.far_table.proofs.BookSeatLemmas.{seat_keeps, seat_made, view_is}
use Rattle.far_table.proofs.SeatLemmas.{job_inside}
use Rattle.far_table.proofs.book_hand.BookSeatNear.see_job.Goals as goal

pub load-requires : goal.load-requires
load-requires g c =
    let i = c.args.self.now.fits in
    let t = job_inside _ _ _ c.args.job i.same (ap (λ t. t.shared.table_id) c.deref.ensures) i.wide c.requires.legal (omega arith) in
    (t.0, t.1, sees_job _ _ _ i.is_book i.plain c.args.job c.requires.legal)

pub invariant_of-self : goal.invariant_of-self
invariant_of-self g c =
    let i = c.args.self.now.fits in
    let h = c.load.ensures in
    let k = seat_keeps _ _ _ _ _ (h.2 c.args.job refl).1 _ _ _ _ _ _ i h.0 refl refl refl refl i.plain in record { fits = k.0; stands = k.1 }

pub returns-clause-kept : goal.returns-clause-kept
returns-clause-kept g c = ap book_state (view_is _ _ _ _ _ (c.load.ensures.2 c.args.job refl).1)

pub returns-clause-made : goal.returns-clause-made
returns-clause-made g c = (c.load.ensures.0, seat_made _ _ _ _ _ (c.load.ensures.2 c.args.job refl).1)
