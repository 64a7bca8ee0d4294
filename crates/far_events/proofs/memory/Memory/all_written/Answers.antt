use Rattle.std.proofs.Common.{sym}
use Rattle.far_events.specs.state.Memory.{state_of}
use Rattle.far_events.proofs.events.Finish.{unwritten_at}
use Rattle.far_events.proofs.memory.Memory.all_written.Goals as goal

pub returns-then-not-has_written : goal.returns-then-not-has_written
returns-then-not-has_written c = sym (unwritten_at ((state_of c.args.self.now).copying.written c.args.copier) c.args.words c.loop-index.index c.loop-index-test.true (sym c.if-not-has_written.ensures))
