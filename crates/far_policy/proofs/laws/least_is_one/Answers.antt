use Rattle.far_policy.proofs.LeastOnes.{least_is_there, least_is_one_lem}
use Rattle.far_policy.proofs.laws.least_is_one.Goals as goal

pub returns-clause-there : goal.returns-clause-there
returns-clause-there c = least_is_there

pub returns-clause-one : goal.returns-clause-one
returns-clause-one c = least_is_one_lem
