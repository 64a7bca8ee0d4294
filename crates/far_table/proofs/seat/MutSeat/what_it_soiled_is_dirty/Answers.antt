use Rattle.far_table.proofs.OwnSteps.{soiled_dirty}
use Rattle.far_table.proofs.seat.MutSeat.what_it_soiled_is_dirty.Goals as goal

pub returns : goal.returns
returns g c = λ x may p own soiled. soiled_dirty c.args.self.now.view x p may own soiled
