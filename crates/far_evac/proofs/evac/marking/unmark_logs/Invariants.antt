use Rattle.std.proofs.Common.{◌≡◌, take, drop}
use Rattle.std.specs.Prelude.{fold}
use Rattle.far_hand.specs.Came.{Came}
use Rattle.far_evac.specs.AnyHand.{Knows}
use Rattle.far_evac.specs.Live.{live_among}
use Rattle.far_evac.specs.RoundSteps.{unmarked}
use Rattle.far_evac.proofs.evac.marking.unmark_logs.Given as goal

abbrev pub invariant-loop-log : goal.invariant-loop-log
invariant-loop-log g l = record {
  known : Knows (fold unmarked (g.N.Near.view l.fn.book.near) (live_among (g.N.Near.view l.fn.book.near) (take l.log-index (drop l.first l.chosen)))) (g.N.Near.view l.book.near);
  exact : g.N.Near.still → g.N.Near.view l.book.near ≡ fold unmarked (g.N.Near.view l.fn.book.near) (live_among (g.N.Near.view l.fn.book.near) (take l.log-index (drop l.first l.chosen)));
  order : l.book.order ≡ l.fn.book.order;
  device : l.book.device ≡ l.fn.book.device;
  came : Came g.N.Near.makes l.fn.book.near l.book.near;
}
