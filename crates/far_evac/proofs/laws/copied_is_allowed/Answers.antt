use Rattle.far_evac.proofs.laws.copied_is_allowed.Goals as goal
use Rattle.far_evac.proofs.Copied.{copied_is_allowed}

pub returns : goal.returns
returns c = copied_is_allowed
