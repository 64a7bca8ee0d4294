use Rattle.far_core.proofs.RoundFacts.{scopes_show}
use Rattle.far_core.proofs.machine.laws.scopes_show.Goals as goal

pub returns : goal.returns
returns c = scopes_show
