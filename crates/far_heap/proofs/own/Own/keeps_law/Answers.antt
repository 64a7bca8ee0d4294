use Rattle.std.proofs.Common.{subst}
use Rattle.far_heap.specs.MineLaw.{MineLaw}
use Rattle.far_heap.proofs.MineLaws.{mine_law}
use Rattle.far_heap.proofs.own.Own.keeps_law.Goals as goal

pub returns : goal.returns
returns g c = let s = c.self.inside in subst MineLaw c.self.view_is (mine_law s.seat _ s.number s.rows c.self.invariant.0 c.no_log_is_given_out_under_a_view.ensures.there)
