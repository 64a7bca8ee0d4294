use Rattle.std.proofs.Common.{◌+◌, ◌-◌, arith, length}
use Rattle.far_events.specs.state.Words.{word_in}
use Rattle.far_events.proofs.Words.{write_is, small_by}
use Rattle.far_events.proofs.memory.words.Words.write.Goals as goal

pub returns-clause-words : goal.returns-clause-words
unfolding word_in
returns-clause-words c =
    write_is c.args.self.now.bytes c.deref_mut.result.now c.copy_from_slice.new.self c.deref_mut.ensures.value c.args.bytes.now c.args.from
    (c.args.from + length c.args.bytes.now - c.args.from) (small_by c.deref_mut.ensures.value c.deref.ensures.value c.each_fits.ensures) c.copy_from_slice.ensures.after (omega arith) (omega (arith, c.requires, c.args.self.now.bytes.ok.0))
