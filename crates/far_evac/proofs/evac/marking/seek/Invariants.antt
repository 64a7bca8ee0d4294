use Rattle.std.proofs.Common.{◌≡◌, ◌-◌, length}
use Rattle.far_hand.specs.Came.{Came}
use Rattle.far_evac.specs.AnyHand.{Knows}
use Rattle.far_evac.specs.Standing.{InRound}
use Rattle.far_evac.proofs.evac.marking.seek.Given as goal

abbrev pub invariant-loop-index : goal.invariant-loop-index
invariant-loop-index g l = record {
  known : Knows (g.N.Near.view l.fn.book.near) (g.N.Near.view l.book.near);
  exact : g.N.Near.still → g.N.Near.view l.book.near ≡ g.N.Near.view l.fn.book.near;
  stands : InRound (g.N.Near.view l.book.near) record l.round { index = l.index; at = l.at };
  order : l.book.order ≡ l.fn.book.order;
  device : l.book.device ≡ l.fn.book.device;
  came : Came g.N.Near.makes l.fn.book.near l.book.near;
}

abbrev pub decreases-loop-index : goal.decreases-loop-index
decreases-loop-index g l = length l.round.chosen - l.index
