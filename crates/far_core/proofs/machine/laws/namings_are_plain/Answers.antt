use Rattle.far_core.proofs.NamingFacts.{namings_are_plain}
use Rattle.far_core.proofs.machine.laws.namings_are_plain.Goals as goal

pub returns : goal.returns
returns c = namings_are_plain
