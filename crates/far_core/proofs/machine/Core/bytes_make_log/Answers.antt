use Rattle.far_events.specs.state.Memory.{state_of}
use Rattle.far_core.proofs.LiveLaws.{live_bytes_are, live_is}
use Rattle.far_core.proofs.Observations.{bytes_make_log}
use Rattle.far_core.proofs.machine.Core.bytes_make_log.Goals as goal

pub returns-clause-sum : goal.returns-clause-sum
returns-clause-sum c = λ l. bytes_make_log (state_of c.args.self.now.memory) c.args.self.now.law l

pub returns-clause-live : goal.returns-clause-live
returns-clause-live c = λ l span. live_is (state_of c.args.self.now.memory) l span

pub returns-clause-bytes : goal.returns-clause-bytes
returns-clause-bytes c = λ l. live_bytes_are (state_of c.args.self.now.memory) l
