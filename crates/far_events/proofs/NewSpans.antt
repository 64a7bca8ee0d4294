-- What a new span's tests say, and where it stands.
use Rattle.std.proofs.Common.{◌≡◌, ◌≢◌, ℕ, ◌<◌, true, arith, nat_lt, inl, inr, refl, sym, ◌∙◌}
use Rattle.std.specs.Prelude.{◌⊎◌}
use Rattle.std.proofs.lemmas.Bool.{eq-eqb, eqb-true, false≢true}
use Rattle.std.proofs.lemmas.Bool.Decides.{nat_tests}
use Rattle.far_word.specs.declared.pointer.Place.{Place}
use Rattle.far_events.specs.declared.event.Kind.{Kind}
use Rattle.far_events.specs.declared.event.Kind.TheVariants.{Free, Open, Sealed}
use Rattle.far_events.specs.events.NewSpans.{IsNext, IsNewSpan, goes_at, is_new_span}
use Rattle.far_events.specs.state.Law.{Law}
use Rattle.far_events.specs.state.State.{State}

next_fact : (k : Kind) (at tail : ℕ) → goes_at k at tail ≡ true → ((k ≡ Open) × (at ≡ tail)) ⊎ ((k ≡ Free) × (at ≡ 0))
next_fact Free at tail h = inr (refl, eqb-true at 0 h)
next_fact Open at tail h = inl (refl, eqb-true at tail h)
next_fact Sealed at tail h = absurd (false≢true h)

next_test : (k : Kind) (at tail : ℕ) → ((k ≡ Open) × (at ≡ tail)) ⊎ ((k ≡ Free) × (at ≡ 0)) → goes_at k at tail ≡ true
next_test k at tail (inl h) = rw h.0 (eq-eqb at tail h.1)
next_test k at tail (inr h) = rw h.0 (eq-eqb at 0 h.1)

pub new_span_fact : (s : State) (p len ds : ℕ) (place : Place) → is_new_span s p len ds place ≡ true → IsNewSpan s p len ds place
new_span_fact s p len ds place h =
    record { next = (grind (arith, nat_tests), next_fact _ _ _ (grind (arith, nat_tests))); head = grind (arith, nat_tests) }

pub new_span_test : (s : State) (p len ds : ℕ) (place : Place) → IsNewSpan s p len ds place → is_new_span s p len ds place ≡ true
new_span_test s p len ds place h =
    let low : place.log < s.logs = h.next.0 in
    let a : nat_lt place.log s.logs ≡ true = grind (arith, nat_tests) in
    rw (a, next_test _ _ _ h.next.1, eq-eqb _ _ h.head) refl

-- where a new span stands is the tail of its log
pub at_tail : (s : State) → Law s → (place : Place) → IsNext s place → place.at ≡ s.tail place.log
at_tail s law at (log, inl h) = h.1
at_tail s law at (log, inr h) = h.1 ∙ sym (law.logs.free_tail at.log h.0)

-- and the log isn't sealed
pub unsealed : (s : State) (place : Place) → IsNext s place → s.kind place.log ≢ Sealed
unsealed s at (log, inl h) shut = let odd : Open ≡ Sealed = sym h.0 ∙ shut in cc
unsealed s at (log, inr h) shut = let odd : Free ≡ Sealed = sym h.0 ∙ shut in cc
