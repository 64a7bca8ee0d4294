use Rattle.far_evac.proofs.laws.objects_go_beside_copiers.Goals as goal
use Rattle.far_evac.proofs.BesideDealt.{objects_go_beside_copiers}
use Rattle.far_evac.proofs.Copied.{jobs_are_passed_over}

pub returns-clause-ways : goal.returns-clause-ways
returns-clause-ways c = objects_go_beside_copiers

pub returns-clause-passed_over : goal.returns-clause-passed_over
returns-clause-passed_over c = jobs_are_passed_over
