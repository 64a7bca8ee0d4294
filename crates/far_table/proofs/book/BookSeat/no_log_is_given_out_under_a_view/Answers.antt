use Rattle.far_table.specs.BookSeats.{seat_lawful}
use Rattle.far_table.proofs.ViewedLogs.{none_is_given_out}
use Rattle.far_table.proofs.book.BookSeat.no_log_is_given_out_under_a_view.Goals as goal

pub returns : goal.returns
returns g c = λ x may. none_is_given_out x (seat_lawful c.args.self.now x may)
