-- A new object whose first bytes are given, over a core of the book's own.
use Rattle.std.specs.Prelude.{◌≡◌, ℕ, true, Some, None, List, Result, IfOk, IfErr}
use Rattle.far_word.specs.declared.pointer.Place.{Place}
use Rattle.far_word.specs.declared.refused.Refused.{Refused}
use Rattle.far_word.specs.declared.refused.Refused.TheVariants.{NoRoom}
use Rattle.far_word.specs.Sizes.{size_of}
use Rattle.far_events.specs.events.NewObjects.{made_with, places_with}
use Rattle.far_events.specs.events.Ranges.{AllLegal, after_events}
use Rattle.far_core.specs.state.CoreState.{core_state}
use Rattle.far_core.specs.state.Room as rooms
use Rattle.far_events.specs.state.State.{State}
use Rattle.far_hand.specs.declared.plain.Plain.{Plain}
use Rattle.far_book.specs.book.BookOf.{BookOf}
use Rattle.far_book.specs.book.Effects.{order_after}

-- the state of the core that a book has in its hand
abbrev pub core_in : {D : Type 0} → BookOf Plain D → State
core_in book = core_state book.near.core

-- an object that begins with these bytes is made for p, which its owner m uses; or there is no room
pub record PlacesWith {D : Type 0} (old new : BookOf Plain D) (m p len ds : ℕ) (bytes : List ℕ) (result : Result Place Refused) : Type 0 where
  -- where room is, with one free log left
  pub room : IfOk result (λ place. rooms.room (core_in old) (size_of len) true ≡ Some place)
  -- the object lies there, with DIRTY alone
  pub made : IfOk result (λ place. core_in new ≡ made_with (core_in old) p len ds place bytes)
  -- the events that this comes to
  pub events : IfOk result (λ place. core_in new ≡ after_events (core_in old) (places_with m p len ds place bytes))
  pub legal : IfOk result (λ place. AllLegal (core_in old) (places_with m p len ds place bytes))
  -- the log that was open is sealed, if the place is in another
  pub order : IfOk result (λ place. new.order ≡ order_after (core_in old) old.order place)
  pub device : new.device ≡ old.device
  -- a refusal is want of room, and nothing has changed
  pub refused : IfErr result (λ why. why ≡ NoRoom)
  pub none : IfErr result (λ _. rooms.room (core_in old) (size_of len) true ≡ None)
  pub unchanged : IfErr result (λ _. new ≡ old)
