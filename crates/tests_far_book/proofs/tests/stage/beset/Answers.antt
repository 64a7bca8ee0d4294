-- What a beset hand at the start is.
use Rattle.std.specs.Prelude.{true}
use Rattle.far_hand.specs.BesetView.{beset_view}
use Rattle.far_core.specs.state.CoreState.{core_state}
use Rattle.tests_far_book.proofs.Uses.{beset_start}
use Rattle.tests_far_book.proofs.tests.stage.beset.Goals as goal

pub new-requires-4-clause-start : goal.new-requires-4-clause-start
new-requires-4-clause-start c =
    beset_start (core_state c.in_ok-core.core) (beset_view c.in_ok-hand.hand) _ true c.in_ok-core.ensures.opening c.in_ok-hand.ensures.view
