use Rattle.far_evac.proofs.laws.copied_comes_back.Goals as goal
use Rattle.far_evac.proofs.CopiedBack.{copied_comes_back}

pub returns : goal.returns
returns c = copied_comes_back
