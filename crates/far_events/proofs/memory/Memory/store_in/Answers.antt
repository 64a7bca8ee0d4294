use Rattle.std.proofs.Common.{arith}
use Rattle.far_events.specs.state.Memory.{state_of}
use Rattle.far_events.proofs.Bounds.{near_inside}
use Rattle.far_events.proofs.memory.Memory.store_in.Goals as goal

pub put_in-requires-clause-row : goal.put_in-requires-clause-row
put_in-requires-clause-row c =
    let n = c.requires.near in
    omega (arith, c.words_for.ensures, (near_inside (state_of c.args.self.now) c.requires.law c.args.pointer c.args.len n.0 c.args.place n.1 n.2).2)

pub put_in-requires-clause-inside : goal.put_in-requires-clause-inside
put_in-requires-clause-inside c =
    let n = c.requires.near in
    omega (arith, c.first_word-from.ensures, c.words_for.ensures, (near_inside (state_of c.args.self.now) c.requires.law c.args.pointer c.args.len n.0 c.args.place n.1 n.2).1)
