use Rattle.std.proofs.Common.{subst}
use Rattle.far_table.specs.Tells.{HasState}
use Rattle.far_table.specs.Seats.{HasPlaces, Seated}
use Rattle.far_table.proofs.ViewedLogs.{held_stays}
use Rattle.far_table.proofs.seat.MutSeat.no_log_is_given_out_under_a_view.Goals as goal

pub returns-clause-kept : goal.returns-clause-kept
returns-clause-kept g c = λ x may p place at.
    held_stays c.args.self.now.view x p place may ((subst (λ (z : Seated). HasPlaces z.view c.self.inside.places.items) c.self.view_is c.self.invariant.7) p place at).own at

pub returns-clause-there : goal.returns-clause-there
returns-clause-there g c = subst (λ (z : Seated). HasState z.view) c.self.view_is c.self.invariant.8
