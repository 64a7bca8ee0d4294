use Rattle.std.proofs.Common.{◌+◌, ◌-◌, ◌*◌, arith}
use Rattle.far_events.specs.state.Words.{word_in}
use Rattle.far_events.proofs.Words.{put_is}
use Rattle.far_events.proofs.memory.words.Words.put.Goals as goal

pub returns-clause-words : goal.returns-clause-words
unfolding word_in
returns-clause-words c =
    put_is c.args.self.now.bytes c.deref_mut.result.now c.copy_from_slice.new.self c.deref_mut.ensures.value c.args.bytes.now c.args.from
    (8 * (c.args.from + c.args.count) - 8 * c.args.from) c.args.count c.copy_from_slice.ensures.after (omega arith) c.requires.bytes (omega (arith, c.requires.inside, c.args.self.now.bytes.ok.0))
