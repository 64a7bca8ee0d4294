-- What a typed call leaves: the state after its event, which keeps the law.
use Rattle.std.proofs.Common.{◌≡◌, ◌∙◌, ℕ, ◌-◌, ◌*◌, ◌^◌, ◌/◌, ◌<◌, Bool, arith, sym, true}
use Rattle.std.proofs.lemmas.Bool.Decides.{nat_tests}
use Rattle.std.specs.Prelude.{is_some, IsSome, IsTrue, ◌↔◌}
use Rattle.far_word.specs.declared.sizes.TheConstants.{CELLS}
use Rattle.far_word.specs.Sizes.{words_for}
use Rattle.far_events.specs.declared.event.Event.{Event}
use Rattle.far_events.specs.declared.event.Event.TheVariants.{Load, Store}
use Rattle.far_events.specs.events.Legal.{Legal}
use Rattle.far_events.specs.events.Next.{next_state}
use Rattle.far_events.specs.events.Step.{Fits, data_len, holds, is_legal}
use Rattle.far_events.specs.state.Law.{Law}
use Rattle.far_events.specs.state.State.{State}
use Rattle.far_core.proofs.Owing.{keeps, is_fact, is_test}
use Rattle.far_events.proofs.Calls.{soiled_held}

pub next_keeps_law : (s : State) (e : Event) → Law s → Legal s e → Fits e → Law (next_state s e)
unfolding next_state
next_keeps_law s e law legal fits = keeps s e law fits legal

-- the same of a state that is known to be the next
pub law_after : (s t : State) (e : Event) → t ≡ next_state s e → Law s → Legal s e → Fits e → Law t
law_after s t e next law legal fits = rw next (next_keeps_law s e law legal fits)

-- what the test of a step answers is whether the event is legal
pub test_is_guard : (s : State) (e : Event) (b : Bool) → Law s → b ≡ is_legal s e → IsTrue b ↔ Legal s e
test_is_guard s e b law is = (λ h. is_fact s e law (sym is ∙ h), λ h. is ∙ is_test s e h)

-- the guard of a load by what its caller knows
pub load_legal : (s : State) (m p i : ℕ) → Law s → p / CELLS ≡ m → IsSome (s.held p) → i < words_for (data_len s p) → Legal s (Load m p i)
load_legal s m p i law own held inside =
    let some : is_some (s.held p) ≡ true = held in
    let h : holds s m p ≡ true = grind (arith, nat_tests) in
    let legal : is_legal s (Load m p i) ≡ true = grind (arith, nat_tests) in
    is_fact s (Load m p i) law legal

-- the guard of a store by what its caller knows
pub store_legal : (s : State) (m p i w : ℕ) → Law s → p / CELLS ≡ m → s.soiled p ≡ true → i < words_for (data_len s p) → w < 2 ^ (8 * (data_len s p - 8 * i)) → Legal s (Store m p i w)
store_legal s m p i w law own soiled inside padding =
    let some : is_some (s.held p) ≡ true = law.soils.soiled_held p soiled in
    let h : holds s m p ≡ true = grind (arith, nat_tests) in
    let legal : is_legal s (Store m p i w) ≡ true = grind (arith, nat_tests) in
    is_fact s (Store m p i w) law legal

pub store_keeps_law : (s : State) (m p i w : ℕ) → Law s → p / CELLS ≡ m → s.soiled p ≡ true → i < words_for (data_len s p) → w < 2 ^ (8 * (data_len s p - 8 * i)) → w < 2 ^ 64 → Law (next_state s (Store m p i w))
unfolding next_state
store_keeps_law s m p i w law own soiled inside padding fits = keeps s (Store m p i w) law fits (store_legal s m p i w law own soiled inside padding)
