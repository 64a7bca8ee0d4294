use Rattle.std.proofs.Common.{arith}
use Rattle.far_log.proofs.ConvertLaws.{converted_walks, converted_is_one, converted_is_said, same_number}
use Rattle.far_log.proofs.laws.images_are_converted.Goals as goal

pub returns-clause-walks : goal.returns-clause-walks
returns-clause-walks c = converted_walks

pub returns-clause-one : goal.returns-clause-one
returns-clause-one c = converted_is_one

pub returns-clause-said : goal.returns-clause-said
returns-clause-said c = converted_is_said

pub returns-clause-pointers : goal.returns-clause-pointers
returns-clause-pointers c = record { first = λ m k lt. omega arith; second = same_number }
