use Rattle.far_core.proofs.JobLaws.{jobs_stand}
use Rattle.far_table.specs.BookSeats.{seat_lawful}
use Rattle.far_table.proofs.book.BookSeat.jobs_stand.Goals as goal

pub returns : goal.returns
returns g c = λ x may. jobs_stand x (seat_lawful c.args.self.now x may)
