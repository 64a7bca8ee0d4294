use Rattle.std.proofs.Common.{subst}
use Rattle.far_heap.specs.LogsStay.{LogsStay}
use Rattle.far_heap.proofs.Resting.{logs_stay}
use Rattle.far_heap.proofs.own.Own.no_log_is_given_out_under_a_view.Goals as goal

pub returns : goal.returns
returns g c = let s = c.self.inside in subst (LogsStay _) c.self.view_is (logs_stay _ s.seat c.self.invariant.0.table c.no_log_is_given_out_under_a_view.ensures.there c.no_log_is_given_out_under_a_view.ensures.kept)
