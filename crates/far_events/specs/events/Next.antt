-- The state after an event as one term, which lemmas over all events can be about.
use Rattle.far_events.specs.declared.event.Event.{Event}
use Rattle.far_events.specs.state.State.{State}
use Rattle.far_events.specs.events.Step.{after}

unfoldable pub next_state : State → Event → State
next_state s e = after s e
