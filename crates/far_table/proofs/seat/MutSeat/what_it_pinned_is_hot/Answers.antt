use Rattle.far_table.proofs.OwnSteps.{pinned_hot}
use Rattle.far_table.proofs.seat.MutSeat.what_it_pinned_is_hot.Goals as goal

pub returns : goal.returns
returns g c = λ x may p own pinned. pinned_hot c.args.self.now.view x p may own pinned
