use Rattle.far_core.proofs.RoundFacts.{one_log_is_a_bit, sets_are_joined, no_log_is_zero, five_is_two_logs}
use Rattle.far_core.proofs.machine.laws.sets_of_logs.Goals as goal

pub returns-clause-one : goal.returns-clause-one
returns-clause-one c = one_log_is_a_bit

pub returns-clause-both : goal.returns-clause-both
returns-clause-both c = sets_are_joined

pub returns-clause-none : goal.returns-clause-none
returns-clause-none c = no_log_is_zero

pub returns-clause-five : goal.returns-clause-five
returns-clause-five c = five_is_two_logs
