use Rattle.std.proofs.Common.{◌≡◌, length}
use Rattle.far_word.specs.Bytes.{packed_word}
use Rattle.far_events.specs.events.Ranges.{with_copy}
use Rattle.far_events.proofs.memory.words.copy_each.Given as goal

abbrev pub invariant-loop-i : goal.invariant-loop-i
invariant-loop-i l = record {
  words : packed_word l.bytes ≡ with_copy (packed_word l.fn.bytes) l.fn.source l.fn.target l.i;
  length : length l.bytes ≡ length l.fn.bytes;
}
