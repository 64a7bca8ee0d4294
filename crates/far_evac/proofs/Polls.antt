-- A poll that is made twice is a poll that is made once.
use Rattle.std.proofs.Common.{◌≡◌, ℕ, zero, suc, ◌+◌, Bool, true, false, cond, not, ◌||◌, nat_lt, Option, Some, arith, ap, sym, refl, ◌∙◌}
use Rattle.std.specs.Prelude.{find}
use Rattle.std.specs.List.{range_with_len}
use Rattle.std.proofs.lemmas.Bool.{cond_both, true≢false}
use Rattle.std.proofs.lemmas.Bool.Decides.{nat_tests}
use mathlib.Core.Path.{fun_ext}
use Rattle.far_events.specs.state.State.{State}
use Rattle.far_evac.specs.Moment.{Moment}
use Rattle.far_evac.specs.RoundSteps.{is_clear_now, with_clear_below}
use Rattle.far_evac.proofs.Bools.{neither}
use Rattle.far_evac.specs.Waiting.{after_polling, first_open, holds_up, polled_to}

-- what was the first to pass a test is so where fewer pass it
module _ (f g : ℕ → Bool) (k : ℕ) (here : g k ≡ f k) (fewer : (m : ℕ) → g m ≡ true → f m ≡ true) where
  abbrev found_by : (ℕ → Bool) → ℕ → ℕ → Option ℕ
  found_by test a n = find test (range_with_len a n)

  not_sooner : (a : ℕ) → f a ≡ false → g a ≡ false
  not_sooner a none = neither (f a) (g a) (fewer a) none

  pub found_again : (a n : ℕ) → found_by f a n ≡ Some k → found_by g a n ≡ Some k
  found_again a zero = λ e. absurd cc
  found_again a (suc n) = cond_both (f a) (Some a) (found_by f (a + 1) n) (λ (o : Option ℕ). o ≡ Some k → found_by g a (suc n) ≡ Some k)
      (λ h e. let same : a ≡ k = cc in let now : g a ≡ true = ap g same ∙ here ∙ ap f (sym same) ∙ h in ap (λ b. cond b (Some a) (found_by g (a + 1) n)) now ∙ e)
      (λ h e. ap (λ b. cond b (Some a) (found_by g (a + 1) n)) (not_sooner a h) ∙ found_again (a + 1) n e)

more_clear : (c b now : Bool) → not ((c || b) || now) ≡ true → not (c || now) ≡ true
more_clear false true now h = absurd (true≢false (sym h))
more_clear _ _ now h = h

not_below : (c now : Bool) (k : ℕ) → not ((c || nat_lt k k) || now) ≡ not (c || now)
not_below true now k = refl
not_below false now k = let none : nat_lt k k ≡ false = grind (arith, nat_tests) in ap (λ b. not (b || now)) none

or_twice : (c b : Bool) → ((c || b) || b) ≡ (c || b)
or_twice false true = refl
or_twice _ _ = refl

pub first_open_again : (s : State) (k : ℕ) → first_open s ≡ Some k → first_open (with_clear_below s k) ≡ Some k
first_open_again s k e = found_again (holds_up s) (holds_up (with_clear_below s k)) k (not_below (s.clear k) (is_clear_now s k) k)
    (λ m. more_clear (s.clear m) (nat_lt m k) (is_clear_now s m)) 0 s.mutators e

pub poll_again : (m : Moment) (k : ℕ) → first_open m.core ≡ Some k → (first_open (after_polling m).core ≡ Some k) × (after_polling (after_polling m) ≡ after_polling m)
poll_again m k e =
    let once : after_polling m ≡ record m { core = with_clear_below m.core k } = ap (polled_to m) e in
    let again = first_open_again m.core k e in
    let twice : after_polling (record m { core = with_clear_below m.core k }) ≡ record m { core = with_clear_below (with_clear_below m.core k) k } = ap (polled_to (record m { core = with_clear_below m.core k })) again in
    let same : with_clear_below (with_clear_below m.core k) k ≡ with_clear_below m.core k =
    ap (λ clear. record m.core { clear = clear }) (fun_ext (λ q. or_twice (m.core.clear q) (nat_lt q k))) in
    (ap (λ n. first_open n.core) once ∙ again, ap after_polling once ∙ twice ∙ ap (λ s. record m { core = s }) same ∙ sym once)
