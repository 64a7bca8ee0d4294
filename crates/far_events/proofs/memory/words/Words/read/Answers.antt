use Rattle.std.proofs.Common.{◌+◌, ◌-◌, arith, length}
use Rattle.far_events.specs.state.Words.{word_in}
use Rattle.far_events.proofs.Words.{bytes_read, small_by}
use Rattle.far_events.proofs.memory.words.Words.read.Goals as goal

pub returns-clause-bytes : goal.returns-clause-bytes
unfolding word_in
returns-clause-bytes c =
    bytes_read c.args.self.now.bytes.items c.deref-2.result.now c.copy_from_slice.new.self c.args.from (c.args.from + length c.args.bytes.now - c.args.from) (length c.args.bytes.now)
    c.deref-2.ensures.value (small_by c.deref-2.ensures.value c.deref.ensures.value c.each_fits.ensures) (omega arith) c.copy_from_slice.ensures.after
