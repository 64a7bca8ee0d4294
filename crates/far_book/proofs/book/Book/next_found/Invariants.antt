use Rattle.std.proofs.Common.{◌≡◌, ◌-◌, ◌≤◌, ℕ}
use Rattle.std.specs.Prelude.{◌⊎◌}
use Rattle.far_hand.specs.Came.{Came}
use Rattle.far_hand.specs.Finds.{Finds}
use Rattle.far_book.specs.book.NextLive.{IsBoundary, IsNamedBetween, live_from}
use Rattle.far_book.proofs.book.Book.next_found.Given as goal

abbrev pub invariant-loop-at : goal.invariant-loop-at
invariant-loop-at g l = record {
  low : l.fn.at ≤ l.at;
  edge : IsBoundary (g.N.Near.view l.fn.self.near) l.log l.at;
  rest : live_from (g.N.Near.view l.fn.self.near) l.log l.fn.at ≡ live_from (g.N.Near.view l.fn.self.near) l.log l.at;
  found : (p : ℕ) → Finds ((g.N.Near.view l.fn.self.near).cell p) ((g.N.Near.view l.self.near).cell p);
  others : (p : ℕ) → IsNamedBetween (g.N.Near.view l.fn.self.near) l.log l.fn.at l.at p ⊎ ((g.N.Near.view l.self.near).cell p ≡ (g.N.Near.view l.fn.self.near).cell p);
  kept : g.N.Near.view l.self.near ≡ record (g.N.Near.view l.fn.self.near) { cell = (g.N.Near.view l.self.near).cell };
  came : Came g.N.Near.makes l.fn.self.near l.self.near;
  exact : g.N.Near.still → g.N.Near.view l.self.near ≡ g.N.Near.view l.fn.self.near;
  order : l.self.order ≡ l.fn.self.order;
  device : l.self.device ≡ l.fn.self.device;
}

abbrev pub decreases-loop-at : goal.decreases-loop-at
decreases-loop-at g l = l.tail - l.at
