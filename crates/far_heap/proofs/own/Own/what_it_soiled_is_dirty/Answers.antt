use Rattle.std.proofs.Common.{subst}
use Rattle.far_heap.specs.SoiledIsDirty.{SoiledIsDirty}
use Rattle.far_heap.proofs.Soiling.{soiled_is_dirty}
use Rattle.far_heap.proofs.own.Own.what_it_soiled_is_dirty.Goals as goal

pub returns : goal.returns
returns g c = let s = c.self.inside in subst (SoiledIsDirty _) c.self.view_is (soiled_is_dirty _ s.seat c.self.invariant.0.table c.no_log_is_given_out_under_a_view.ensures.there c.what_it_soiled_is_dirty.ensures)
