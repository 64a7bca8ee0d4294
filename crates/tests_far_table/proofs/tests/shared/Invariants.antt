use Rattle.tests_far_table.specs.Fits.{Ready}
use Rattle.tests_far_table.proofs.tests.shared.Given as goal

abbrev pub invariant-loop : goal.invariant-loop
invariant-loop l = Ready l.seats.items l.all.items
