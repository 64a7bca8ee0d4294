-- An access of a closed owner leaves true what is true of an evacuator.
use Rattle.std.proofs.Common.{◌≡◌, ◌∙◌, ℕ, Bool, List, [], ◌∷◌, ap, subst, sym}
use Rattle.far_events.specs.declared.event.Event.{Event}
use Rattle.far_events.specs.events.Accesses.{with_cell}
use Rattle.far_events.specs.events.Ranges.{after_events}
use Rattle.far_events.specs.events.Step.{step_of}
use Rattle.far_events.specs.state.Law.{Law}
use Rattle.far_events.specs.state.State.{State}
use Rattle.far_core.proofs.Keeps.{step_keeps}
use Rattle.far_hand.proofs.OthersWork.{step_changes}
use Rattle.far_book.specs.book.SealedLogs.{KeepsSealed}
use Rattle.far_book.proofs.region.Accessed.{AllOthers}
use Rattle.far_book.proofs.region.Owns.{own_law}
use Rattle.far_evac.specs.declared.round.Round.{Round}
use Rattle.far_evac.specs.Standing.{IsSound}
use Rattle.far_evac.proofs.Framed.{framed}
use Rattle.far_evac.proofs.Sound.{sound_called, sound_of_owners}
use Rattle.far_evac.proofs.Walks.{knows_same}

module _ {still : Type 0} {copying : Bool} (r : Round) where
  -- events of others, legal or not
  pub sound_all : (es : List Event) → AllOthers es → (s : State) → Law s → IsSound still s copying r → IsSound still (after_events s es) copying r
  sound_all [] own s law sound = sound
  sound_all (e ∷ es) own s law sound =
      sound_all es own.1 (step_of s e).0 (step_keeps s e law own.0.1) (sound_of_owners s (step_of s e).0 r sound (step_changes s e law own.0.0))

  -- as a call tells it
  pub sound_after : (es : List Event) → AllOthers es → (s t : State) → Law s → t ≡ after_events s es → IsSound still s copying r → IsSound still t copying r
  sound_after es own s t law is sound = subst (λ (u : State). IsSound still u copying r) (sym is) (sound_all es own s law sound)

  -- a cell gets another word, and nothing comes to lie in a sealed log
  pub sound_reworded : (s t : State) (p : ℕ) → Law s → t ≡ with_cell s p (t.cell p) → KeepsSealed s t → IsSound still s copying r → IsSound still t copying r
  sound_reworded s t p law is sealed sound = sound_called s t r sound t (own_law s law) sealed (is ∙ sym (ap (framed s) is)) (knows_same t)
