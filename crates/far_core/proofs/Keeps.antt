-- Each legal event keeps the law.
use Rattle.std.proofs.lemmas.Bool.{cond_both}
use Rattle.far_core.proofs.Owing.{is_fact}
use Rattle.far_events.specs.state.Law.{Law}
use Rattle.far_events.specs.state.State.{State}
use Rattle.far_events.specs.events.Step.{Fits, is_legal, step_of}
use Rattle.far_events.specs.declared.event.Event.{Event}
use Rattle.far_events.specs.declared.event.Reply.{Reply}
pub use Rattle.far_events.proofs.Bounds.{one_name}
pub use Rattle.far_core.proofs.Owing.{keeps, is_fact}

-- so does every step
pub step_keeps : (s : State) (e : Event) → Law s → Fits e → Law (step_of s e).0
step_keeps s e law fits = cond_both (is_legal s e) _ _ (λ (x : State × Reply). Law x.0) (λ h. keeps s e law fits (is_fact s e law h)) (λ _. law)
