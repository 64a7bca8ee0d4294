use Rattle.far_events.specs.state.Memory.{state_of}
use Rattle.far_core.proofs.Steps.{agrees}
use Rattle.far_core.proofs.machine.Core.keeps_law.Goals as goal

pub returns-clause-agrees : goal.returns-clause-agrees
returns-clause-agrees c = agrees (state_of c.args.self.now.memory) c.args.self.now.law
