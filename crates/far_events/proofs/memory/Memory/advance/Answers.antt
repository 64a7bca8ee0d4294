use Rattle.far_events.specs.state.Memory.{state_of}
use Rattle.far_events.proofs.events.Advance.{advance_parts}
use Rattle.far_events.proofs.memory.Memory.advance.Goals as goal

pub choose-requires-clause-shut : goal.choose-requires-clause-shut
choose-requires-clause-shut c = (advance_parts (state_of c.args.self.now) c.args.logs c.requires.legal).1
