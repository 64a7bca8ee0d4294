-- The words that are loaded from a view: those of the state before it.
use Rattle.std.proofs.Common.{◌≡◌, ℕ, zero, suc, ◌+◌, ◌<◌, true, refl, ap, subst, ◌∙◌, arith}
use Rattle.far_word.specs.Sizes.{words_for}
use Rattle.far_events.specs.declared.event.Event.TheVariants.{Load}
use Rattle.far_events.specs.state.State.{State}
use Rattle.far_events.specs.events.Step.{is_legal, data_len}
use Rattle.far_core.proofs.Owing.{is_test}
use Rattle.far_events.specs.events.Ranges.{after_events}
use Rattle.far_alone.specs.EventRows.{AllSucceed}
use Rattle.far_alone.specs.Events.{load_events}
use Rattle.far_alone.proofs.MadeLemmas.{load_stays, first_succeeds}
use Rattle.far_alone.proofs.Views.{Viewed}

-- loads leave the state
pub loads_stay : (t : State) (m p first count : ℕ) → after_events t (load_events m p first count) ≡ t
loads_stay t m p first zero = refl
loads_stay t m p first (suc count) = ap (λ u. after_events u (load_events m p (first + 1) count)) (load_stays t m p first) ∙ loads_stay t m p (first + 1) count

module _ (s t : State) (m p : ℕ) (view : Viewed s t m p) where
  -- a load of a word of a held object is legal
  pub load_legal : (i : ℕ) → i < words_for (data_len s p) → is_legal t (Load m p i) ≡ true
  load_legal i lt = is_test t (Load m p i) (view.len, (view.place, view.holds, subst (λ n. i < words_for n) view.long lt))

  -- loads of words of a held object succeed
  pub loads_succeed : (first count : ℕ) → ((i : ℕ) → i < count → first + i < words_for (data_len s p)) → AllSucceed t (load_events m p first count)
  loads_succeed first zero inside = tt
  loads_succeed first (suc count) inside =
      let at : first + 0 ≡ first = omega arith in
      first_succeeds t (Load m p first) (load_events m p (first + 1) count)
      (load_legal first (subst (λ i. i < words_for (data_len s p)) at (inside 0 (omega arith)))) tt
      (loads_succeed (first + 1) count (λ i lt. let e : first + suc i ≡ first + 1 + i = omega arith in subst (λ k. k < words_for (data_len s p)) e (inside (suc i) (omega arith))))
