use Rattle.far_replay_laws.proofs.FaultsLeft.{faults_leave}
use Rattle.far_replay_laws.proofs.headline.faults_leave.Goals as goal

pub returns : goal.returns
returns c = faults_leave
