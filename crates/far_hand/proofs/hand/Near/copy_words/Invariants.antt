use Rattle.far_hand.specs.Ranges.{CopiesRow}
use Rattle.far_hand.proofs.hand.Near.copy_words.Given as goal

abbrev pub invariant-loop-i : goal.invariant-loop-i
invariant-loop-i g l = CopiesRow g.Self.Near.still g.Self.Near.view g.Self.Near.makes l.fn.from l.fn.to 0 l.i l.fn.self l.self
