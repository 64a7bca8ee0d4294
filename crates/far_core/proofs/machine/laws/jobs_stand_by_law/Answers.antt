use Rattle.far_core.proofs.JobLaws.{jobs_stand}
use Rattle.far_core.proofs.machine.laws.jobs_stand_by_law.Goals as goal

pub returns : goal.returns
returns c = jobs_stand
