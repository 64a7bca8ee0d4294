-- Which states the legal events of the core lead to.
use Rattle.std.specs.Prelude.{◌≡◌, List, All}
use Rattle.far_events.specs.declared.event.Event.{Event}
use Rattle.far_events.specs.declared.event.Event.TheVariants.{Adopt, Ask, Claim, Close, Finish, Load, Open, PeekJob, Pin, Read, ReadEpoch, ReadLength, Soil, Store, Write}
use Rattle.far_events.specs.events.Ranges.{AllLegal, after_events}
use Rattle.far_events.specs.events.Step.{Fits}
use Rattle.far_events.specs.state.State.{State}

-- an event that no owner and no copier makes: the book's alone
abbrev pub IsOfBook : Event → Type 0
IsOfBook (ReadEpoch m) = ⊥
IsOfBook (Open m) = ⊥
IsOfBook (Pin m p) = ⊥
IsOfBook (Load m p i) = ⊥
IsOfBook (Store m p i w) = ⊥
IsOfBook (Soil m p) = ⊥
IsOfBook (Close m) = ⊥
IsOfBook (Adopt m p) = ⊥
IsOfBook (Ask m p mark) = ⊥
IsOfBook (PeekJob c j) = ⊥
IsOfBook (Claim c j old) = ⊥
IsOfBook (ReadLength c) = ⊥
IsOfBook (Read c i) = ⊥
IsOfBook (Write c i) = ⊥
IsOfBook (Finish c) = ⊥
IsOfBook e = Unit {0}

-- some events of the book lead from s to t, each legal when it is made and with words of 64 bits
pub record Reached (s t : State) : Type 0 where
  pub made : List Event
  pub legal : AllLegal s made
  pub fits : All Fits made
  pub of_book : All IsOfBook made
  pub leads : t ≡ after_events s made
