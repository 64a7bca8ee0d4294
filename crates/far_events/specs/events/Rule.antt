-- What an event is.
use Rattle.std.specs.Prelude.{Bool, Option, Some, None}
use Rattle.far_events.specs.declared.event.Reply.{Reply}
use Rattle.far_events.specs.state.State.{State}
use Rattle.far_events.specs.declared.event.Reply.TheVariants.{Word}
use Rattle.far_events.specs.events.Changes.{Change, Stays}
use Rattle.far_events.specs.events.Touch.{Touch}

-- what an event is in a state: whether it is legal, as a test and as a fact; the state after it where it is, and what it
-- answers then; what its reply reports of the words and views, and what it touches. Each `Reports` ends in
-- a row that nothing meets: no other reply comes
pub record Rule : Type 1 where
  pub test : Bool
  pub after : State
  pub answer : Reply
  pub Legal : Type 0
  pub Reports : Reply → State → Type 0
  pub touches : Touch

-- what an event is without a state: the words that it carries are 64 bits wide; what it does to the world, by its reply,
-- other than Refused
pub record Form : Type 1 where
  pub Fits : Type 0
  pub change : Reply → Option Change

-- a reply that may come, and leaves the world as it is
abbrev pub only_word : Reply → Option Change
only_word (Word x) = Some Stays
only_word r = None
