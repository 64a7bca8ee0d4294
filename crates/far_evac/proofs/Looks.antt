-- Looks at owners, one after the other: who is seen clear, and which is the first that is open.
use Rattle.std.proofs.Common.{◌≡◌, ◌≢◌, ℕ, zero, suc, ◌+◌, ◌/◌, ◌<◌, ◌≤◌, Bool, true, false, cond, not, ◌||◌, nat_lt, Some, None, inl, inr, arith, ap, sym, refl, ◌∙◌, subst}
use Rattle.std.specs.Prelude.{find, IsSome}
use Rattle.std.specs.List.{range_with_len}
use Rattle.std.proofs.lemmas.Bool.{cases_eq}
use Rattle.std.proofs.lemmas.Bool.Decides.{nat_tests}
use mathlib.Core.Path.{fun_ext}
use Rattle.far_word.specs.Scope.{scope_of}
use Rattle.far_events.specs.events.Look.{shows_clear}
use Rattle.far_events.specs.state.State.{State}
use Rattle.far_events.proofs.Put.{put_both}
use Rattle.far_hand.specs.Rounds.{looked_at}
use Rattle.far_evac.specs.declared.answers.Polled.TheVariants.{Clear, StillOpen}
use Rattle.far_evac.specs.RoundSteps.{is_clear_now, with_clear_below}
use Rattle.far_evac.specs.Waiting.{first_open, holds_up, polled, polled_at}
use Rattle.far_evac.proofs.Readiness.{clear_is_shown}

-- ---- the first that passes a test
find_none : (test : ℕ → Bool) (a n : ℕ) → ((k : ℕ) → k < a + n → test k ≡ false) → find test (range_with_len a n) ≡ None
find_none test a zero none = refl
find_none test a (suc n) none = ap (λ b. cond b (Some a) (find test (range_with_len (a + 1) n))) (none a (omega arith)) ∙ find_none test (a + 1) n (λ k lt. none k (omega (arith, lt)))

find_at : (test : ℕ → Bool) (k a n : ℕ) → a ≤ k → k < a + n → ((j : ℕ) → j < k → test j ≡ false) → test k ≡ true → find test (range_with_len a n) ≡ Some k
find_at test k a zero from within none here = absurd (omega (arith, from, within))
find_at test k a (suc n) from within none here = elim (cases_eq a k) [
  | inl same ↦ ap (λ b. cond b (Some a) (find test (range_with_len (a + 1) n))) (ap test same ∙ here) ∙ ap (λ j. Some j) same
  | inr other ↦
      let lt : a < k = omega (arith, from, other) in
      ap (λ b. cond b (Some a) (find test (range_with_len (a + 1) n))) (none a lt) ∙ find_at test k (a + 1) n (omega (arith, lt)) (omega (arith, within)) none here
]

-- ---- who is seen clear
or_true : (a b : Bool) → b ≡ true → (a || b) ≡ true
or_true true b h = refl
or_true false b h = h

or_next : (clear : Bool) (q k : ℕ) → q ≢ k → (clear || nat_lt q k) ≡ (clear || nat_lt q (k + 1))
or_next true q k other = refl
or_next false q k other = grind (arith, nat_tests, other)

module _ (s : State) where
  pub one_looked : (k w : ℕ) → shows_clear s.round_epoch (scope_of w) ≡ true → looked_at (with_clear_below s k) k w ≡ with_clear_below s (k + 1)
  one_looked k w shows = λ i. record s {
    clear = (fun_ext (λ q.
        put_both (λ b. b ≡ (s.clear q || nat_lt q (k + 1))) (λ m. s.clear m || nat_lt m k) k ((s.clear k || nat_lt k k) || shows_clear s.round_epoch (scope_of w)) q
        (λ e. or_true (s.clear k || nat_lt k k) (shows_clear s.round_epoch (scope_of w)) shows ∙ sym (or_true (s.clear q) (nat_lt q (k + 1)) (grind (arith, nat_tests, e))))
        (λ ne. or_next (s.clear q) q k ne))) i;
  }

  -- ---- the first that is open
  clear_now : (m : ℕ) → IsSome (scope_of (s.scope m)) → shows_clear s.round_epoch (scope_of (s.scope m)) ≡ true → holds_up s m ≡ false
  clear_now m layout shows = ap (λ b. not b) (or_true (s.clear m) (is_clear_now s m) (clear_is_shown s m layout ∙ shows))

  open_now : (m : ℕ) → s.clear m ≡ false → IsSome (scope_of (s.scope m)) → shows_clear s.round_epoch (scope_of (s.scope m)) ≡ false → holds_up s m ≡ true
  open_now m unseen layout shows = ap (λ b. not (b || is_clear_now s m)) unseen ∙ ap (λ b. not b) (clear_is_shown s m layout ∙ shows)

  abbrev NoneBelow : ℕ → Type 0
  NoneBelow k = (m : ℕ) → m < k → holds_up s m ≡ false

  pub none_more : (k w : ℕ) → w ≡ s.scope k → IsSome (scope_of w) → shows_clear s.round_epoch (scope_of w) ≡ true → NoneBelow k → NoneBelow (k + 1)
  none_more k w is layout shows before m lt = elim (cases_eq m k) [
    | inl same ↦ ap (holds_up s) same ∙ clear_now k (subst (λ x. IsSome (scope_of x)) is layout) (ap (λ x. shows_clear s.round_epoch (scope_of x)) (sym is) ∙ shows)
    | inr other ↦ before m (omega (arith, lt, other))
  ]

  pub found_open : (k w epoch : ℕ) → k < s.mutators → s.clear k ≡ false → w ≡ s.scope k → IsSome (scope_of w) → shows_clear s.round_epoch (scope_of w) ≡ false → epoch ≡ w / 2 → NoneBelow k →
      StillOpen k epoch ≡ polled s
  found_open k w epoch lt unseen is layout shows half before =
      let first : first_open s ≡ Some k =
      find_at (holds_up s) k 0 s.mutators (omega arith) (omega (arith, lt)) before
      (open_now k unseen (subst (λ x. IsSome (scope_of x)) is layout) (ap (λ x. shows_clear s.round_epoch (scope_of x)) (sym is) ∙ shows)) in
      ap (λ e. StillOpen k e) (half ∙ ap (λ x. x / 2) is) ∙ sym (ap (polled_at s) first)

  pub found_clear : (k : ℕ) → s.mutators ≤ k → NoneBelow k → Clear ≡ polled s
  found_clear k most before = sym (ap (polled_at s) (find_none (holds_up s) 0 s.mutators (λ m lt. before m (omega (arith, lt, most)))))
