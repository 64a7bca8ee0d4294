use Rattle.std.proofs.Common.{arith}
use Rattle.far_events.specs.state.Memory.{state_of}
use Rattle.far_events.proofs.Calls.{behind_header, data_inside}
use Rattle.far_events.proofs.memory.Memory.first_data.Goals as goal

pub returns-clause-within : goal.returns-clause-within
returns-clause-within c = omega (arith, c.first_word.ensures, data_inside (state_of c.args.self.now) c.requires.law c.args.pointer c.held_place.result c.held_place.ensures)

pub returns-clause-is : goal.returns-clause-is
returns-clause-is c = omega (arith, c.first_word.ensures, behind_header (state_of c.args.self.now) c.requires.law c.args.pointer c.held_place.result c.held_place.ensures)
