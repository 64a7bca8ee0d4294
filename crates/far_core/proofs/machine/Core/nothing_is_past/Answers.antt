use Rattle.far_events.specs.state.Memory.{state_of}
use Rattle.far_events.proofs.Ends.{has_nothing_past}
use Rattle.far_core.proofs.Ends.{is_what_is_within}
use Rattle.far_core.proofs.machine.Core.nothing_is_past.Goals as goal

pub returns-clause-past : goal.returns-clause-past
returns-clause-past c = has_nothing_past c.args.self.now.memory

pub returns-clause-within : goal.returns-clause-within
returns-clause-within c = is_what_is_within (state_of c.args.self.now.memory) (has_nothing_past c.args.self.now.memory)
