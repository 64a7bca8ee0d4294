use Rattle.far_map.proofs.EachOnce.{entries_told}
use Rattle.far_map.proofs.laws.entries_are_told.Goals as goal

pub returns : goal.returns
returns c = entries_told
