use Rattle.far_hand.specs.Ranges.{WritesRow}
use Rattle.far_hand.proofs.hand.Near.put_zeros.Given as goal

abbrev pub invariant-loop-i : goal.invariant-loop-i
invariant-loop-i g l = WritesRow g.Self.Near.still g.Self.Near.view g.Self.Near.makes l.fn.log l.fn.at (λ _. 0) 0 l.i l.fn.self l.self
