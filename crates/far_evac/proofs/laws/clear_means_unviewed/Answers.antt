use Rattle.far_evac.proofs.laws.clear_means_unviewed.Goals as goal
use Rattle.far_evac.proofs.Unviewed.{clear_means_unviewed, clear_views_nothing}

pub returns : goal.returns
returns c = record { polled = clear_means_unviewed; later = clear_views_nothing }
