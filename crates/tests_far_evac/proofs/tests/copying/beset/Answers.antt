-- What a beset hand at the start is.
use Rattle.std.specs.Prelude.{true}
use Rattle.far_hand.specs.BesetView.{beset_view}
use Rattle.far_core.specs.state.CoreState.{core_state}
use Rattle.tests_far_evac.proofs.Uses.{beset_alone, beset_start}
use Rattle.tests_far_evac.proofs.tests.copying.beset.Goals as goal

pub new-requires-4-clause-start : goal.new-requires-4-clause-start
new-requires-4-clause-start c =
    beset_start (core_state c.in_ok-core.core) (beset_view c.in_ok-hand.hand) _ true c.in_ok-core.ensures.opening c.in_ok-hand.ensures.view

pub copying-requires-clause-alone : goal.copying-requires-clause-alone
copying-requires-clause-alone c =
    beset_alone c.in_ok-book.book c.in_ok-hand.hand (core_state c.in_ok-core.core) _ true c.in_ok-book.ensures.near c.in_ok-core.ensures.opening c.in_ok-hand.ensures.view
