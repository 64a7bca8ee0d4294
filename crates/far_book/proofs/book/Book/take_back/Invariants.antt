use Rattle.std.proofs.Common.{◌≡◌}
use Rattle.far_hand.specs.Came.{Came}
use Rattle.far_book.specs.book.Collecting.{TakesBack, all_back}
use Rattle.far_book.specs.book.Own.{HasNoJob}
use Rattle.far_book.proofs.book.Book.take_back.Given as goal

abbrev pub invariant-loop-job : goal.invariant-loop-job
invariant-loop-job g l = record {
  came : Came g.N.Near.makes l.fn.self.near l.self.near;
  takes : TakesBack (g.N.Near.view l.fn.self.near) l.job (g.N.Near.view l.self.near);
  exact : g.N.Near.still → g.N.Near.view l.self.near ≡ all_back (g.N.Near.view l.fn.self.near) l.job;
  unoffered : HasNoJob (g.N.Near.view l.fn.self.near) → l.self ≡ l.fn.self;
  order : l.self.order ≡ l.fn.self.order;
  device : l.self.device ≡ l.fn.self.device;
}
