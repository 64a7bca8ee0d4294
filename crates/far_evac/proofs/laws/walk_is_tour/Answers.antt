use Rattle.far_evac.proofs.laws.walk_is_tour.Goals as goal
use Rattle.far_evac.proofs.Tours.{walk_tours}

pub returns : goal.returns
returns c = walk_tours
