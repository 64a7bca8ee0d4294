-- Once all owners are clear nobody views anything in the logs of the round.
use Rattle.std.proofs.Common.{inl, inr, ◌≡◌, ◌≢◌, ℕ, zero, suc, ◌+◌, ◌*◌, ◌/◌, ◌%◌, ◌<◌, ◌≤◌, Bool, true, false, cond, ◌||◌, ◌&&◌, ◌==◌, nat_lt, nat_le, Option, Some, None, arith, ap, sym, refl, ◌∙◌, subst}
use Rattle.std.specs.Prelude.{IsSome, find, is_some}
use Rattle.std.specs.List.{range_with_len}
use Rattle.std.proofs.lemmas.Bool.{cases_lt, cond_both, eqb-true, false≢true, false_from_ne_true, true≢false}
use Rattle.std.proofs.lemmas.Bool.Decides.{nat_tests}
use Rattle.far_word.specs.declared.pointer.Place.{Place}
use Rattle.far_word.specs.declared.scope.ScopeWord.TheVariants as scoped
use Rattle.far_word.specs.declared.sizes.TheConstants.{CELLS, EPOCH_END}
use Rattle.far_word.specs.Scope.{scope_of}
use Rattle.far_events.specs.state.Law.{Law}
use Rattle.far_events.specs.state.State.{State}
use Rattle.far_evac.specs.declared.phase.Phase.TheVariants.{Evacuating}
use Rattle.far_evac.specs.Laws.{ClearViewsNothing}
use Rattle.far_evac.specs.Moment.{Moment}
use Rattle.far_evac.specs.MomentLaw.{MomentLaw, has_risen}
use Rattle.far_evac.specs.RoundSteps.{among, is_clear_now}
use Rattle.far_evac.specs.Waiting.{first_open, holds_up}
use Rattle.far_evac.proofs.Readiness.{clear_one}

pub none_found : (test : ℕ → Bool) (k a n : ℕ) → find test (range_with_len a n) ≡ None → a ≤ k → k < a + n → test k ≡ false
none_found test k a zero = λ e from to. let odd : ⊥ = omega (arith, from, to) in absurd odd
none_found test k a (suc n) = cond_both (test a) (Some a) (find test (range_with_len (a + 1) n)) (λ (o : Option ℕ). o ≡ None → a ≤ k → k < a + suc n → test k ≡ false)
    (λ _ e. absurd cc)
    (λ not_here e from to. elim (cases_lt a k) [
      | inl past ↦ none_found test k (a + 1) n e (omega (arith, past)) (omega (arith, to))
      | inr le ↦ let same : k ≡ a = omega (arith, from, le) in ap test same ∙ not_here
    ])

-- what is found first passes a test that those before it don't
pub found_in : (test : ℕ → Bool) (k a n : ℕ) → find test (range_with_len a n) ≡ Some k → (test k ≡ true) × (k < a + n) × ((j : ℕ) → a ≤ j → j < k → test j ≡ false)
found_in test k a zero = λ e. absurd cc
found_in test k a (suc n) = cond_both (test a) (Some a) (find test (range_with_len (a + 1) n)) (λ (o : Option ℕ). o ≡ Some k → (test k ≡ true) × (k < a + suc n) × ((j : ℕ) → a ≤ j → j < k → test j ≡ false))
    (λ h e. let same : a ≡ k = cc in (ap test (sym same) ∙ h, omega (arith, same), λ j from to. let odd : ⊥ = omega (arith, same, from, to) in absurd odd))
    (λ here e.
    let x = found_in test k (a + 1) n e in (
      x.0,
      omega (arith, x.1),
      λ j from to. elim (cases_lt a j) [
        | inl past ↦ x.2 j (omega (arith, past)) to
        | inr le ↦ let same : j ≡ a = omega (arith, from, le) in ap test same ∙ here
      ],
    ))

-- a word of a scope that isn't closed is that of one that is open
pub open_of : (w : ℕ) → w ≢ 0 → IsSome (scope_of w) → scope_of w ≡ Some (scoped.Open (w / 2))
unfolding scope_of
open_of w opened = cond_both (w == 0) (Some scoped.Closed) (cond ((w % 2 == 1) && nat_lt w (2 * EPOCH_END)) (Some (scoped.Open (w / 2))) None)
    (λ (o : Option _). IsSome o → o ≡ Some (scoped.Open (w / 2)))
    (λ closed _. absurd (opened (eqb-true w 0 closed)))
    (λ _. cond_both ((w % 2 == 1) && nat_lt w (2 * EPOCH_END)) (Some (scoped.Open (w / 2))) None (λ (o : Option _). IsSome o → o ≡ Some (scoped.Open (w / 2)))
    (λ _ _. refl) (λ _ none. absurd (false≢true none)))

pub late_of : (w epoch : ℕ) → w ≢ 0 → ((w == 0) || nat_le epoch (w / 2)) ≡ true → epoch ≤ w / 2
late_of w epoch opened h = grind (arith, nat_tests, opened, h)

module _ (s : State) (law : Law s) (all : first_open s ≡ None) (p : ℕ) (place : Place) (views : s.held p ≡ Some place) where
  abbrev owner : ℕ
  owner = p / CELLS

  opened : s.scope owner ≢ 0
  opened = law.views.held_open p (ap is_some views)

  clear_or_late : (s.clear owner || is_clear_now s owner) ≡ true
  clear_or_late = clear_one (s.clear owner) (is_clear_now s owner)
      (none_found (holds_up s) owner 0 s.mutators all (omega arith) (let range = law.scopes.scope_range owner opened in omega (arith, range)))

  by_cases : (clear now : Bool) → s.clear owner ≡ clear → is_clear_now s owner ≡ now → (clear || now) ≡ true → s.round place.log ≡ false
  by_cases true now is _ h = law.clears.clear_unviewed p place views is
  by_cases false true _ is h = law.clears.late_unviewed p (s.scope owner / 2) place views (open_of (s.scope owner) opened (law.scopes.scope_read owner)) (late_of (s.scope owner) s.round_epoch opened is)
  by_cases false false _ _ h = absurd (false≢true h)

  pub out_of_round : s.round place.log ≡ false
  out_of_round = by_cases (s.clear owner) (is_clear_now s owner) refl refl clear_or_late

pub clear_means_unviewed : (m : Moment) → Law m.core → MomentLaw m → has_risen m.phase ≡ true → first_open m.core ≡ None →
    (p : ℕ) (place : Place) → m.core.held p ≡ Some place → among m.collection place.log ≡ false
clear_means_unviewed m law moment risen all p place views =
    false_from_ne_true (among m.collection place.log) (λ held. true≢false (sym (moment.round risen place.log held) ∙ out_of_round m.core law all p place views))

-- ---- later in the round
module _ (m : Moment) (s : State) (law : Law s) (round : s.round ≡ m.core.round) (clear : s.clear ≡ m.core.clear) (mutators : s.mutators ≡ m.core.mutators) (moment : MomentLaw m)
    (risen : has_risen m.phase ≡ true) (p : ℕ) (place : Place) (views : s.held p ≡ Some place) where
  seen_clear : m.core.clear (p / CELLS) ≡ true → among m.collection place.log ≡ false
  seen_clear seen = false_from_ne_true (among m.collection place.log) (λ held. true≢false (
      sym (moment.round risen place.log held) ∙ ap (λ f. f place.log) (sym round) ∙ law.clears.clear_unviewed p place views (ap (λ f. f (p / CELLS)) clear ∙ seen)))

  owned : p / CELLS < m.core.mutators
  owned = subst (λ n. p / CELLS < n) mutators (law.scopes.scope_range (p / CELLS) (law.views.held_open p (ap is_some views)))

  pub nothing_viewed : (m.core.clear (p / CELLS) ≡ true → among m.collection place.log ≡ false) × (m.phase ≡ Evacuating → among m.collection place.log ≡ false)
  nothing_viewed = (seen_clear, λ leaves. seen_clear (moment.clear leaves (p / CELLS) owned))

pub clear_views_nothing : ClearViewsNothing
clear_views_nothing m s law round clear mutators moment risen p place views = nothing_viewed m s law round clear mutators moment risen p place views
