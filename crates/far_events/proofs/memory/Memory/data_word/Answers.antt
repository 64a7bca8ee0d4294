use Rattle.std.proofs.Common.{arith}
use Rattle.far_events.specs.state.Memory.{state_of}
use Rattle.far_events.proofs.Calls.{word_behind, word_inside}
use Rattle.far_events.proofs.memory.Memory.data_word.Goals as goal

pub returns-clause-is : goal.returns-clause-is
returns-clause-is c = omega (arith, c.first_word.ensures, word_behind (state_of c.args.self.now) c.requires.law c.args.pointer c.args.index c.held_place.result c.held_place.ensures)

pub returns-clause-within : goal.returns-clause-within
returns-clause-within c = omega (arith, c.first_word.ensures, word_inside (state_of c.args.self.now) c.requires.law c.args.pointer c.args.index c.held_place.result c.held_place.ensures c.requires.index)
