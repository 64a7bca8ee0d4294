use Rattle.far_backed.specs.Named.{handle_of}
use Rattle.far_backed.proofs.backed.Backed.reserved.Goals as goal

pub returns-in-Ok-clause-empty : goal.returns-in-Ok-clause-empty
returns-in-Ok-clause-empty c = λ n. c.in-Ok.ensures.empty (handle_of n)
