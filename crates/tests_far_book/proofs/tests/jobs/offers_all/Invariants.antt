use Rattle.std.proofs.Common.{◌≡◌, ◌<◌, true}
use Rattle.tests_far_book.proofs.tests.jobs.offers_all.Given as goal

abbrev pub invariant-loop-pointer : goal.invariant-loop-pointer
invariant-loop-pointer g l = record {
  mutators : 0 < (g.N.Near.view l.book.near).mutators;
  round : (g.N.Near.view l.book.near).round 0 ≡ true;
  clear : (g.N.Near.view l.book.near).clear 0 ≡ true;
}
