use Rattle.std.proofs.Common.{ap, arith, length}
use Rattle.far_events.specs.state.Words.{word_in}
use Rattle.far_events.proofs.Words.{set_is}
use Rattle.far_events.proofs.memory.words.Words.set.Goals as goal

pub returns-clause-word : goal.returns-clause-word
unfolding word_in
returns-clause-word c =
    set_is c.args.self.now.bytes c.deref_mut.result.now c.write_u64.new.buf c.deref_mut.ensures.value c.args.at c.args.word
    c.ranges.word.fits (omega (arith, c.requires, ap length c.deref_mut.ensures.value, c.args.self.now.bytes.ok.0)) c.write_u64.ensures
