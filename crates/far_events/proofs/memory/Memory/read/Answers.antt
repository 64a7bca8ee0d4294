use Rattle.std.proofs.Common.{arith, sym, ◌∙◌}
use Rattle.far_events.specs.state.Memory.{state_of}
use Rattle.far_events.proofs.CopierCalls.{read_lies}
use Rattle.far_events.proofs.memory.Memory.read.Goals as goal

pub word-word-requires : goal.word-word-requires
word-word-requires c =
    let x = read_lies (state_of c.args.self.now) c.requires.law c.args.copier c.args.index c.requires.legal c.in-Some.task (sym c.task.ensures.is ∙ c.in-Some.is) in
    omega (arith, c.first_word.ensures, x.0)

pub learn_word-requires-clause-copier : goal.learn_word-requires-clause-copier
learn_word-requires-clause-copier c = (read_lies (state_of c.args.self.now) c.requires.law c.args.copier c.args.index c.requires.legal c.in-Some.task (sym c.task.ensures.is ∙ c.in-Some.is)).2

pub learn_word-requires-clause-index : goal.learn_word-requires-clause-index
learn_word-requires-clause-index c = (read_lies (state_of c.args.self.now) c.requires.law c.args.copier c.args.index c.requires.legal c.in-Some.task (sym c.task.ensures.is ∙ c.in-Some.is)).1
