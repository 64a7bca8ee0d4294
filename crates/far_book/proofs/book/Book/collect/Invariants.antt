use Rattle.std.proofs.Common.{◌≡◌, ◌≤◌}
use Rattle.far_hand.specs.Came.{Came}
use Rattle.far_book.specs.book.Collecting.{Collects, all_collected}
use Rattle.far_book.specs.book.Own.{HasNoJob}
use Rattle.far_book.proofs.book.Book.collect.Given as goal

abbrev pub invariant-loop-job : goal.invariant-loop-job
invariant-loop-job g l = record {
  came : Came g.N.Near.makes l.fn.self.near l.self.near;
  collects : Collects (g.N.Near.view l.fn.self.near) l.job (g.N.Near.view l.self.near) l.count;
  exact : g.N.Near.still → all_collected (g.N.Near.view l.fn.self.near) l.job ≡ (g.N.Near.view l.self.near, l.count);
  most : l.count ≤ l.job;
  unoffered : HasNoJob (g.N.Near.view l.fn.self.near) → (l.self ≡ l.fn.self) × (l.count ≡ 0);
  order : l.self.order ≡ l.fn.self.order;
  device : l.self.device ≡ l.fn.self.device;
}
