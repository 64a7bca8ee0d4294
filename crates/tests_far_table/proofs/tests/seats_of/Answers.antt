use Rattle.far_core.specs.state.CoreState.{core_state}
use Rattle.tests_far_table.proofs.Fitting.{are_ready}
use Rattle.tests_far_table.proofs.tests.seats_of.Goals as goal

pub returns : goal.returns
returns c = are_ready (core_state c.args.core) _ _ _ _ c.keeps_law.ensures.law c.in_ok-_book.ensures.owners c.in-Ok.ensures
