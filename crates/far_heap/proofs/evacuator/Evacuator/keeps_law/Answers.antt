use Rattle.far_core.proofs.JobLaws.{jobs_stand}
use Rattle.far_table.specs.BookSeats.{seat_lawful, seat_shown, seat_there, seat_view}
use Rattle.far_table.proofs.ViewedLogs.{none_is_given_out}
use Rattle.far_table.proofs.WholeLogs.{is_whole}
use Rattle.far_book.proofs.region.FarHeld.{holds_own, shown_holds}
use Rattle.far_heap.proofs.FarSides.{honest_shown}
use Rattle.far_heap.proofs.evacuator.Evacuator.keeps_law.Goals as goal

pub returns-clause-named : goal.returns-clause-named
returns-clause-named g c = c.stands.ensures.named

pub returns-clause-law : goal.returns-clause-law
returns-clause-law g c = c.stands.ensures.law

pub returns-clause-moment : goal.returns-clause-moment
returns-clause-moment g c = c.stands.ensures.moment

pub returns-clause-whole : goal.returns-clause-whole
returns-clause-whole g c = λ x may. is_whole x (seat_lawful c.args.self.now.book.near x may)

pub returns-clause-kept : goal.returns-clause-kept
returns-clause-kept g c = λ x may. none_is_given_out x (seat_lawful c.args.self.now.book.near x may)

pub returns-clause-jobs : goal.returns-clause-jobs
returns-clause-jobs g c = λ x may. jobs_stand x (seat_lawful c.args.self.now.book.near x may)

pub returns-clause-far : goal.returns-clause-far
returns-clause-far g c = λ x may.
    shown_holds (seat_view c.args.self.now.book.near) x (g.D.Device.contents c.args.self.now.book.device) (seat_shown c.args.self.now.book.near x may) c.stands.ensures.far

pub returns-clause-own : goal.returns-clause-own
returns-clause-own g c = λ x may. holds_own x (g.D.Device.contents c.args.self.now.book.device) (seat_lawful c.args.self.now.book.near x may) (returns-clause-far g c x may)

pub returns-clause-honest : goal.returns-clause-honest
returns-clause-honest g c = λ x may h. c.stands.ensures.honest (honest_shown (seat_view c.args.self.now.book.near) x (seat_shown c.args.self.now.book.near x may) h)

pub returns-clause-there : goal.returns-clause-there
returns-clause-there g c = seat_there c.args.self.now.book.near
