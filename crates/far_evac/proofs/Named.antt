-- Whom a poll names, and at which epoch.
use Rattle.std.proofs.Common.{inl, inr, ◌≡◌, ◌≢◌, ℕ, ◌+◌, ◌*◌, ◌/◌, ◌%◌, ◌<◌, Bool, true, false, cond, ◌||◌, ◌&&◌, ◌==◌, nat_lt, nat_le, Option, Some, None, arith, ap, refl}
use Rattle.std.specs.Prelude.{IsSome}
use Rattle.std.proofs.lemmas.Bool.{cases_eq, cond_both, eqb-true, false≢true, or_parts, not-true}
use Rattle.std.proofs.lemmas.Bool.Decides.{nat_tests}
use Rattle.far_word.specs.declared.scope.ScopeWord.TheVariants as scoped
use Rattle.far_word.specs.declared.sizes.TheConstants.{EPOCH_END}
use Rattle.far_word.specs.Scope.{scope_of}
use Rattle.far_events.specs.state.State.{State}
use Rattle.far_evac.specs.Laws.{HoldsUpNone, TellsWhoIsOpen, WaitIsNamed}
use Rattle.far_evac.specs.RoundSteps.{is_clear_now}
use Rattle.far_evac.specs.Waiting.{first_open, holds_up, polled_at}
use Rattle.far_evac.proofs.Readiness.{clear_one}
use Rattle.far_evac.proofs.Unviewed.{found_in, late_of, none_found, open_of}

-- a word of a scope that is open is odd
pub odd_of : (w : ℕ) → w ≢ 0 → IsSome (scope_of w) → w ≡ 2 * (w / 2) + 1
unfolding scope_of
odd_of w opened = cond_both (w == 0) (Some scoped.Closed) (cond ((w % 2 == 1) && nat_lt w (2 * EPOCH_END)) (Some (scoped.Open (w / 2))) None)
    (λ (o : Option _). IsSome o → w ≡ 2 * (w / 2) + 1)
    (λ closed _. absurd (opened (eqb-true w 0 closed)))
    (λ _. cond_both ((w % 2 == 1) && nat_lt w (2 * EPOCH_END)) (Some (scoped.Open (w / 2))) None (λ (o : Option _). IsSome o → w ≡ 2 * (w / 2) + 1)
    (λ odd _. let one : w % 2 ≡ 1 = grind (arith, nat_tests, odd) in omega (arith, one)) (λ _ none. absurd (false≢true none)))

closed_of : (w : ℕ) → w ≡ 0 → scope_of w ≡ Some scoped.Closed
unfolding scope_of
closed_of w e = ap scope_of e

neither_zero : (w : ℕ) (late : Bool) → ((w == 0) || late) ≡ false → w ≢ 0
neither_zero w late h = grind (arith, nat_tests, h)

not_late : (w epoch : ℕ) → ((w == 0) || nat_le epoch (w / 2)) ≡ false → w / 2 < epoch
not_late w epoch h = grind (arith, nat_tests, h)

module _ (s : State) (layout : (k : ℕ) → IsSome (scope_of (s.scope k))) where
  by_cases : (k : ℕ) (clear now : Bool) → s.clear k ≡ clear → is_clear_now s k ≡ now → (clear || now) ≡ true → HoldsUpNone s k
  by_cases k true now is _ h = inl is
  by_cases k false true _ is h = elim (cases_eq (s.scope k) 0) [
    | inl closed ↦ inr (inl (closed_of (s.scope k) closed))
    | inr opened ↦ inr (inr (s.scope k / 2, open_of (s.scope k) opened (layout k), late_of (s.scope k) s.round_epoch opened is))
  ]
  by_cases k false false _ _ h = absurd (false≢true h)

  held_up_none : (k : ℕ) → holds_up s k ≡ false → HoldsUpNone s k
  held_up_none k h = by_cases k (s.clear k) (is_clear_now s k) refl refl (clear_one (s.clear k) (is_clear_now s k) h)

  told_at : (o : Option ℕ) → first_open s ≡ o → TellsWhoIsOpen s (polled_at s o)
  told_at None e = λ k lt. held_up_none k (none_found (holds_up s) k 0 s.mutators e (omega arith) (omega (arith, lt)))
  told_at (Some k) e =
      let found = found_in (holds_up s) k 0 s.mutators e in
      let why = or_parts (s.clear k) (is_clear_now s k) (not-true (s.clear k || is_clear_now s k) found.0) in
      let opened = neither_zero (s.scope k) (nat_le s.round_epoch (s.scope k / 2)) why.1 in
      record {
        owner = omega (arith, found.1);
        scope = odd_of (s.scope k) opened (layout k);
        older = not_late (s.scope k) s.round_epoch why.1;
        unseen = why.0;
        before = λ j lt. held_up_none j (found.2 j (omega arith) lt);
      }

pub wait_is_named : WaitIsNamed
wait_is_named s layout = told_at s layout (first_open s) refl
