use Rattle.std.proofs.Common.{◌+◌, ◌-◌, ◌*◌, ap, arith, length}
use Rattle.far_events.specs.state.Words.{word_in}
use Rattle.far_events.proofs.Words.{words_read}
use Rattle.far_events.proofs.memory.words.Words.load.Goals as goal

pub returns : goal.returns
unfolding word_in
returns c =
    words_read c.args.self.now.bytes.items c.deref.result.now c.pack_bytes.new.words c.args.from (8 * (c.args.from + length c.args.words.now) - 8 * c.args.from) (length c.args.words.now)
    c.deref.ensures.value (omega arith) (omega (arith, c.requires, ap length c.deref.ensures.value, c.args.self.now.bytes.ok.0)) c.pack_bytes.ensures
