-- What an answer reports of the words and views, beside what it says of the world.
use Rattle.far_events.specs.declared.event.Event.{Event}
use Rattle.far_events.specs.declared.event.Reply.{Reply}
use Rattle.far_events.specs.declared.event.Reply.TheVariants.{Refused}
use Rattle.far_events.specs.events.Legal.{Legal}
use Rattle.far_events.specs.state.State.{State}
use Rattle.far_events.specs.events.Step.{rule, after, answer}
pub use Rattle.far_events.specs.events.NewSpans.{Takes}
pub use Rattle.far_events.specs.events.Pin.{SetsHot}

abbrev pub Reports : State → Event → Reply → State → Type 0
Reports s e r t = (rule s e).Reports r t

abbrev pub RepliesReport : State → Type 0
RepliesReport s = (e : Event) → Legal s e → Reports s e (answer s e) (after s e)

-- a refusal reports nothing: it falls to the last row of each event, which nothing meets
abbrev pub RefusalsReportNothing : Type 0
RefusalsReportNothing = (s t : State) (e : Event) → ¬ Reports s e Refused t
