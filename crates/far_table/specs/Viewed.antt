-- No log is given out under a view: what holds of a place that an owner holds, in any state that meets the rule, and after any step from there.
use Rattle.std.specs.Prelude.{◌≡◌, ◌≢◌, ◌/◌, ℕ, true, Some}
use Rattle.far_word.specs.declared.pointer.Place.{Place}
use Rattle.far_word.specs.declared.sizes.TheConstants.{CELLS}
use Rattle.far_events.specs.declared.event.Event.{Event}
use Rattle.far_events.specs.declared.event.Event.TheVariants.{Get}
use Rattle.far_events.specs.declared.event.Kind.TheVariants.{Free}
use Rattle.far_events.specs.events.Legal.{Legal}
use Rattle.far_events.specs.events.Step.{Fits, after}
use Rattle.far_events.specs.state.State.{State}

-- its owner's scope is open, and the log isn't free. To give that log back isn't legal, and whatever event is made, an owner's, a copier's or the book's, the log
-- isn't free after it: so the log can't be taken anew either, since only a free log can
pub record StaysGiven (s : State) (p : ℕ) (place : Place) : Type 0 where
  pub opened : s.scope (p / CELLS) ≢ 0
  pub taken : s.kind place.log ≢ Free
  pub given : (at : ℕ) → ¬ Legal s (Get place.log at true)
  pub later : (e : Event) → Fits e → Legal s e → (after s e).kind place.log ≢ Free

abbrev pub NoneIsGivenOut : State → Type 0
NoneIsGivenOut s = (p : ℕ) (place : Place) → s.held p ≡ Some place → StaysGiven s p place
