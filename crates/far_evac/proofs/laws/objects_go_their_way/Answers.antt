use Rattle.far_evac.proofs.laws.objects_go_their_way.Goals as goal
use Rattle.far_evac.proofs.Going.{objects_go_their_way}

pub returns : goal.returns
returns c = objects_go_their_way
