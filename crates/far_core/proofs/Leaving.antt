-- What each event leaves.
use Rattle.std.proofs.Common.{◌≢◌, ◌≡◌, ℕ, ◌/◌, refl, subst}
use Rattle.std.proofs.lemmas.Bool.{cond_both}
use Rattle.far_word.specs.declared.sizes.TheConstants.{CELLS}
use Rattle.far_events.specs.declared.event.Event.{Event}
use Rattle.far_events.specs.declared.event.Event.TheVariants.{Pin, Close}
use Rattle.far_events.specs.declared.event.Reply.{Reply}
use Rattle.far_events.specs.declared.event.Reply.TheVariants.{Refused}
use Rattle.far_core.specs.laws.Leaves.{PartBy, EventsLeave}
use Rattle.far_events.specs.state.State.{State}
use Rattle.far_events.specs.events.Step.{after, answer, is_legal, step_of, touches}
use Rattle.far_events.specs.events.Touch.{Touches}
use Rattle.far_core.proofs.Owing.{owed}
use Rattle.far_core.proofs.Touching.{untouched}

pub events_leave : EventsLeave
events_leave s e = record {
  within = cond_both (is_legal s e) (after s e, answer s e) (s, Refused) (λ (x : State × Reply). Touches s (touches s e) x.0) (λ h. (owed e).within s) (λ _. untouched s (touches s e));
  part = (owed e).part s;
  word = (owed e).word s;
}

-- a place is held on, but for its owner's pin and close
pub held_stays : (s : State) (e : Event) (p : ℕ) → e ≢ Pin (p / CELLS) p → e ≢ Close (p / CELLS) → (step_of s e).0.held p ≡ s.held p
held_stays s e p a b = cond_both (is_legal s e) (after s e, answer s e) (s, Refused) (λ (x : State × Reply). x.0.held p ≡ s.held p)
    (λ h. ((owed e).within s).held p (λ is. a (subst (PartBy e) is ((owed e).part s h))) (λ is. b (subst (PartBy e) is ((owed e).part s h)))) (λ _. refl)
