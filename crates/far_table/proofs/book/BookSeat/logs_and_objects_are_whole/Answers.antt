use Rattle.far_table.specs.BookSeats.{seat_lawful}
use Rattle.far_table.proofs.WholeLogs.{is_whole}
use Rattle.far_table.proofs.book.BookSeat.logs_and_objects_are_whole.Goals as goal

pub returns : goal.returns
returns g c = λ x may. is_whole x (seat_lawful c.args.self.now x may)
