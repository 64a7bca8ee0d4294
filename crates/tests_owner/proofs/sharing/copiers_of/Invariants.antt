use Rattle.tests_owner.specs.Works.{AllIdle}
use Rattle.tests_owner.proofs.sharing.copiers_of.Given as goal

abbrev pub invariant-loop : goal.invariant-loop
invariant-loop l = AllIdle l.seats.items
