use Rattle.far_policy.proofs.Scripts.{follows_script, script_is_one_lem}
use Rattle.far_policy.proofs.laws.script_is_one.Goals as goal

pub returns-clause-followed : goal.returns-clause-followed
returns-clause-followed c = follows_script

pub returns-clause-one : goal.returns-clause-one
returns-clause-one c = script_is_one_lem
