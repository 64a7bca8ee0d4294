use Rattle.far_word.specs.Bytes.{packed_word}
use Rattle.far_hand.specs.Ranges.{WritesRow}
use Rattle.far_hand.proofs.hand.Near.put_words.Given as goal

abbrev pub invariant-loop-i : goal.invariant-loop-i
invariant-loop-i g l = WritesRow g.Self.Near.still g.Self.Near.view g.Self.Near.makes l.fn.log l.fn.at (packed_word l.fn.bytes) 0 l.i l.fn.self l.self
