use Rattle.std.proofs.Common.{◌≡◌}
use Rattle.tests_seats.proofs.tests.jobs.are_alike.Given as goal

abbrev pub invariant-loop-i : goal.invariant-loop-i
invariant-loop-i g l = g.N.Near.view l.near ≡ record (g.N.Near.view l.fn.near) { word = (g.N.Near.view l.near).word }
