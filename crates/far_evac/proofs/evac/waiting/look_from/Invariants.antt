use Rattle.std.proofs.Common.{◌≡◌, ◌<◌, ◌≤◌, ℕ, true, false}
use Rattle.far_hand.specs.Came.{Came, only}
use Rattle.far_evac.specs.RoundSteps.{with_clear_below}
use Rattle.far_evac.specs.Waiting.{Looks, holds_up}
use Rattle.far_evac.proofs.evac.waiting.look_from.Given as goal

abbrev pub invariant-loop-owner : goal.invariant-loop-owner
invariant-loop-owner g l = record {
  is : g.N.Near.view l.book.near ≡ with_clear_below (g.N.Near.view l.fn.book.near) l.owner;
  exact : g.N.Near.still → (k : ℕ) → k < l.owner → holds_up (g.N.Near.view l.fn.book.near) k ≡ false;
  past : (k : ℕ) → l.owner-end ≤ k → k < l.owner → (g.N.Near.view l.fn.book.near).clear k ≡ true;
  from : l.fn.from ≤ l.owner;
  order : l.book.order ≡ l.fn.book.order;
  device : l.book.device ≡ l.fn.book.device;
  looks : Came (only Looks g.N.Near.makes) l.fn.book.near l.book.near;
}
