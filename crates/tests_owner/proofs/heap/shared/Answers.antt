use Rattle.std.proofs.Common.{true, sym, subst}
use Rattle.far_core.specs.state.CoreState.{core_state}
use Rattle.far_book.specs.book.Own.{HasNoJob}
use Rattle.far_table.specs.BookSeats.{seat_view}
use Rattle.tests_owner.proofs.Fitting.{fresh_seats, jobs_start, seat_start}
use Rattle.tests_owner.proofs.heap.shared.Goals as goal

pub owners_of-requires : goal.owners_of-requires
owners_of-requires c = fresh_seats _ _ c.args.shape true _ c.in_ok-core.ensures.opening c.in_ok-core.ensures.law.shape.few_mutators c.in_ok-seat.ensures.owners

pub new-requires-clause-start : goal.new-requires-clause-start
new-requires-clause-start c = seat_start (core_state c.in_ok-core.core) _ c.args.shape true c.in_ok-core.ensures.opening c.in_ok-seat.ensures.starts.book

pub returns : goal.returns
returns c = record { alone = subst (λ b. HasNoJob (seat_view b)) (sym c.in_ok-book.ensures.near) (jobs_start (core_state c.in_ok-core.core) _ c.args.shape true c.in_ok-core.ensures.opening c.in_ok-seat.ensures.starts.book) }
