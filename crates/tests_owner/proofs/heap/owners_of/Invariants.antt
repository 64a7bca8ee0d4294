use Rattle.tests_owner.specs.Fits.{Fresh}
use Rattle.tests_owner.proofs.heap.owners_of.Given as goal

abbrev pub invariant-loop : goal.invariant-loop
invariant-loop l = Fresh l.seats.items
