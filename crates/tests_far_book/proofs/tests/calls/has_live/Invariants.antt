use Rattle.std.proofs.Common.{◌<◌}
use Rattle.far_book.specs.book.NextLive.{IsBoundary}
use Rattle.tests_far_book.proofs.tests.calls.has_live.Given as goal

abbrev pub invariant-loop-span : goal.invariant-loop-span
invariant-loop-span g l = record {
  log : l.log < (g.N.Near.view l.book.near).logs;
  edge : IsBoundary (g.N.Near.view l.book.near) l.log l.at;
}
