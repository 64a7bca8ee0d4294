use Rattle.far_pool.proofs.Histories.{others_stay}
use Rattle.far_pool.proofs.laws.others_stay.Goals as goal

pub returns : goal.returns
returns c = others_stay
