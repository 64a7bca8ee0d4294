-- When an event is legal, as a fact in the subject's words.
use Rattle.far_events.specs.declared.event.Event.{Event}
use Rattle.far_events.specs.state.State.{State}
use Rattle.far_events.specs.events.Step.{rule}
pub use Rattle.far_events.specs.events.Owners.{IsClosed, IsOpen, HoldsObject, HoldsWord}
pub use Rattle.far_events.specs.events.NewSpans.{IsNext, IsNewSpan}

abbrev pub Legal : State → Event → Type 0
Legal s e = (rule s e).Legal
