use Rattle.std.proofs.Common.{◌≡◌, ◌-◌}
use Rattle.far_word.specs.declared.sizes.TheConstants.{LOG_WORDS}
use Rattle.far_hand.specs.Came.{Came}
use Rattle.far_evac.specs.AnyHand.{Knows}
use Rattle.far_book.specs.book.NextLive.{IsBoundary}
use Rattle.far_evac.specs.Standing.{MarkedBefore}
use Rattle.far_evac.proofs.evac.marking.next_unmarked.Given as goal

abbrev pub invariant-loop-found : goal.invariant-loop-found
invariant-loop-found g l = record {
  known : Knows (g.N.Near.view l.fn.book.near) (g.N.Near.view l.book.near);
  exact : g.N.Near.still → g.N.Near.view l.book.near ≡ g.N.Near.view l.fn.book.near;
  begins : IsBoundary (g.N.Near.view l.book.near) l.log l.from;
  before : MarkedBefore (g.N.Near.view l.book.near) l.log l.from;
  order : l.book.order ≡ l.fn.book.order;
  device : l.book.device ≡ l.fn.book.device;
  came : Came g.N.Near.makes l.fn.book.near l.book.near;
}

abbrev pub decreases-loop-found : goal.decreases-loop-found
decreases-loop-found g l = LOG_WORDS - l.from
