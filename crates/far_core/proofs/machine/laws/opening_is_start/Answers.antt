use Rattle.std.proofs.Common.{true}
use Rattle.far_core.proofs.WorldFacts.{opening_world}
use Rattle.far_core.proofs.machine.laws.opening_is_start.Goals as goal

pub returns-clause-world : goal.returns-clause-world
returns-clause-world c = opening_world true c.args.shape c.args.honest
