use Rattle.far_firsts.proofs.Newness.{prefix}
use Rattle.far_firsts.proofs.laws.what_is_printed_is_a_prefix.Goals as goal

pub returns : goal.returns
returns c = prefix
