use Rattle.far_policy.proofs.Choices.{rows_told}
use Rattle.far_policy.proofs.laws.rows_tell_of_logs.Goals as goal

pub returns : goal.returns
returns c = rows_told
