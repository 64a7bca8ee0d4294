use Rattle.std.proofs.Common.{arith}
use Rattle.far_word.specs.Header.{head_word}
use Rattle.far_word.specs.Sizes.{words_for}
use Rattle.far_word.proofs.HeaderLaws.{head_fits}
use Rattle.far_events.specs.state.Memory.{state_of}
use Rattle.far_events.specs.state.State.{addr}
use Rattle.far_events.proofs.NewObjects.{object_wide, object_written}
use Rattle.far_events.proofs.memory.Memory.write_object.Goals as goal

pub write_bytes-requires-clause-wide : goal.write_bytes-requires-clause-wide
write_bytes-requires-clause-wide c = object_wide (state_of c.args.self.now) (state_of c.set_word.new.self) (state_of c.blank.new.self) _ _ _ _ c.set_word.ensures c.blank.ensures (rw c.pack.ensures (head_fits c.args.head c.requires.head)) c.requires.wide

pub returns : goal.returns
returns c = object_written (state_of c.args.self.now) (state_of c.set_word.new.self) (state_of c.blank.new.self) (state_of c.write_bytes.new.self) (addr c.args.place) (head_word c.args.head.pointer c.args.head.len c.args.head.ds)
    (words_for c.args.head.len) c.args.bytes.now (omega (arith, c.requires.front)) _ _ _ _ _ c.set_word.ensures c.blank.ensures c.write_bytes.ensures c.first_word-first.ensures c.pack.ensures
    (omega (arith, c.first_word-first.ensures)) (omega (arith, c.words_for.ensures)) (omega (arith, c.first_word-first.ensures))
