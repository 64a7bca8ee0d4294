use Rattle.far_events.specs.state.Memory.{state_of}
use Rattle.far_core.proofs.Observations.{walks, of_heap, logs_stand, placed_exactly, word_has_no_span, word_has_one_span}
use Rattle.far_core.proofs.machine.Core.spans_fill_logs.Goals as goal

pub returns-clause-walk : goal.returns-clause-walk
returns-clause-walk c = λ l. walks (state_of c.args.self.now.memory) c.args.self.now.law l

pub returns-clause-pointers : goal.returns-clause-pointers
returns-clause-pointers c = λ l. of_heap (state_of c.args.self.now.memory) c.args.self.now.law l

pub returns-clause-tails : goal.returns-clause-tails
returns-clause-tails c = c.args.self.now.law.logs.tail_end

pub returns-clause-stand : goal.returns-clause-stand
returns-clause-stand c = logs_stand (state_of c.args.self.now.memory) c.args.self.now.law

pub returns-clause-placed : goal.returns-clause-placed
returns-clause-placed c = λ l at. placed_exactly (state_of c.args.self.now.memory) c.args.self.now.law l at

pub returns-clause-below : goal.returns-clause-below
returns-clause-below c = λ l i lt. word_has_one_span (state_of c.args.self.now.memory) c.args.self.now.law l i lt

pub returns-clause-past : goal.returns-clause-past
returns-clause-past c = λ l i le. word_has_no_span (state_of c.args.self.now.memory) c.args.self.now.law l i le
