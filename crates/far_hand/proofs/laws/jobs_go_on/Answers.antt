use Rattle.far_hand.proofs.JobsFound.{goes_on, went_on}
use Rattle.far_hand.proofs.laws.jobs_go_on.Goals as goal

pub returns : goal.returns
returns c = λ known found. (goes_on known found, went_on known found)
