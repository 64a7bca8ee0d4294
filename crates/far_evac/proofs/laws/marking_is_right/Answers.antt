use Rattle.far_evac.proofs.laws.marking_is_right.Goals as goal
use Rattle.far_evac.proofs.Counted.{marking_is_counted}
use Rattle.far_evac.proofs.Marks.{is_marked}

pub returns : goal.returns
returns c = record { cells = is_marked; counted = marking_is_counted }
