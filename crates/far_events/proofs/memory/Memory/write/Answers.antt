use Rattle.std.proofs.Common.{arith, sym, ◌∙◌}
use Rattle.far_events.specs.state.Memory.{state_of}
use Rattle.far_events.proofs.CopierCalls.{write_lies}
use Rattle.far_events.proofs.memory.Memory.write.Goals as goal

pub set_word-requires : goal.set_word-requires
set_word-requires c =
    let x = write_lies (state_of c.args.self.now) c.requires.law c.args.copier c.args.index c.in-Some-read_word.word c.in-Some.task (sym c.task.ensures.is ∙ c.in-Some.is) (sym c.read_word.ensures ∙ c.in-Some-read_word.is) in
    omega (arith, c.first_word.ensures, x.0)

pub note_written-requires-clause-copier : goal.note_written-requires-clause-copier
note_written-requires-clause-copier c = (write_lies (state_of c.args.self.now) c.requires.law c.args.copier c.args.index c.in-Some-read_word.word c.in-Some.task (sym c.task.ensures.is ∙ c.in-Some.is) (sym c.read_word.ensures ∙ c.in-Some-read_word.is)).2

pub note_written-requires-clause-index : goal.note_written-requires-clause-index
note_written-requires-clause-index c = (write_lies (state_of c.args.self.now) c.requires.law c.args.copier c.args.index c.in-Some-read_word.word c.in-Some.task (sym c.task.ensures.is ∙ c.in-Some.is) (sym c.read_word.ensures ∙ c.in-Some-read_word.is)).1
