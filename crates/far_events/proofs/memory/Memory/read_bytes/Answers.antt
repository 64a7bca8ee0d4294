use Rattle.std.proofs.Common.{length}
use Rattle.far_events.specs.state.Memory.{state_of}
use Rattle.far_events.specs.state.Words.{word_in}
use Rattle.far_events.proofs.Splices.{range_read}
use Rattle.far_events.proofs.memory.Memory.read_bytes.Goals as goal

pub returns-clause-bytes : goal.returns-clause-bytes
unfolding state_of
returns-clause-bytes c = range_read (word_in c.args.self.now.words) c.read.new.bytes c.args.first c.args.from (length c.args.bytes.now) c.read.ensures.length c.read.ensures.bytes
