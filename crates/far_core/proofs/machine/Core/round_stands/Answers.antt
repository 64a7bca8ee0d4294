use Rattle.far_events.specs.state.Memory.{state_of}
use Rattle.far_core.proofs.RoundFacts.{round_stands}
use Rattle.far_core.proofs.machine.Core.round_stands.Goals as goal

pub returns : goal.returns
returns c = round_stands (state_of c.args.self.now.memory) c.args.self.now.law
