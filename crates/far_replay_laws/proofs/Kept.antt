-- A state with the law is whole.
use Rattle.far_events.specs.state.Law.{Law}
use Rattle.far_events.specs.state.State.{State}
use Rattle.far_core.proofs.Observations.{has_one_place, bytes_make_log, names_once}
use Rattle.far_replay_laws.specs.Headline.{IsWhole}

pub whole : (s : State) → Law s → IsWhole s
whole s law = (has_one_place s law, bytes_make_log s law, names_once s law)
