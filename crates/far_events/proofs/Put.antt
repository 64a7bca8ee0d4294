-- A function changed at one argument.
use Rattle.std.proofs.Common.{◌≡◌, ◌≢◌, ℕ, ◌+◌, Bool, true, false, arith, inl, inr, cond, nat_eq, nat_lt, sym, refl, ap, ◌∙◌}
use Rattle.std.specs.Prelude.{◌⊎◌}
use Rattle.std.proofs.lemmas.Bool.{cond_both, eqb-true, eqb-false, ne_eqb, eq-eqb, lt-ltb, le-ltb, ltb-true, ltb-false}
use mathlib.Core.Path.{fun_ext}
use Rattle.far_events.specs.state.State.{put}

module _ {X : Type 0} where
  -- what holds of the new value at k, and of the old values elsewhere
  pub put_both : (P : X → Type 0) (f : ℕ → X) (k : ℕ) (v : X) (q : ℕ) → (q ≡ k → P v) → (q ≢ k → P (f q)) → P (put f k v q)
  put_both P f k v q here there = cond_both (nat_eq q k) v (f q) P (λ e. here (eqb-true q k e)) (λ e. there (eqb-false q k e))

  pub put_same : (f : ℕ → X) (k : ℕ) (v : X) (q : ℕ) → q ≡ k → put f k v q ≡ v
  put_same f k v q e = ap (λ b. cond b v (f q)) (eq-eqb q k e)

  pub put_other : (f : ℕ → X) (k : ℕ) (v : X) (q : ℕ) → q ≢ k → put f k v q ≡ f q
  put_other f k v q ne = ap (λ b. cond b v (f q)) (ne_eqb q k ne)

  -- what is found is the new value at k, or an old one elsewhere
  pub put_cases : (f : ℕ → X) (k : ℕ) (v : X) (q : ℕ) (r : X) → put f k v q ≡ r → ((q ≡ k) × (v ≡ r)) ⊎ ((q ≢ k) × (f q ≡ r))
  put_cases f k v q r = put_both (λ x. x ≡ r → ((q ≡ k) × (v ≡ r)) ⊎ ((q ≢ k) × (f q ≡ r))) f k v q (λ e is. inl (e, is)) (λ ne is. inr (ne, is))

  pub put_cases_of : (f : ℕ → X) (k : ℕ) (v : X) (q : ℕ) (P : X → Type 0) → P (put f k v q) → ((q ≡ k) × P v) ⊎ ((q ≢ k) × P (f q))
  put_cases_of f k v q P = put_both (λ x. P x → ((q ≡ k) × P v) ⊎ ((q ≢ k) × P (f q))) f k v q (λ e is. inl (e, is)) (λ ne is. inr (ne, is))

  -- the same of two functions changed at one argument
  pub put_two : {Y : Type 0} (P : X → Y → Type 0) (f : ℕ → X) (g : ℕ → Y) (k : ℕ) (v : X) (w : Y) (q : ℕ) → (q ≡ k → P v w) → (q ≢ k → P (f q) (g q)) → P (put f k v q) (put g k w q)
  put_two P f g k v w q here there = at (nat_eq q k) refl where
    at : (b : Bool) → nat_eq q k ≡ b → P (cond b v (f q)) (cond b w (g q))
    at true e = here (eqb-true q k e)
    at false e = there (eqb-false q k e)

  -- a function that takes another's values at its first arguments, one after the other
  pub first_none : (f g : ℕ → X) → (λ k. cond (nat_lt k 0) (f k) (g k)) ≡ g
  first_none f g = fun_ext (λ k. ap (λ b. cond b (f k) (g k)) (le-ltb k 0 (omega arith)))

  pub first_more : (f g : ℕ → X) (n : ℕ) → put (λ k. cond (nat_lt k n) (f k) (g k)) n (f n) ≡ (λ k. cond (nat_lt k (n + 1)) (f k) (g k))
  first_more f g n = fun_ext (λ q. put_both (λ x. x ≡ cond (nat_lt q (n + 1)) (f q) (g q)) (λ k. cond (nat_lt k n) (f k) (g k)) n (f n) q
      (λ e. ap f (sym e) ∙ sym (ap (λ b. cond b (f q) (g q)) (lt-ltb q (n + 1) (omega arith))))
      (λ ne. cond_both (nat_lt q n) (f q) (g q) (λ x. x ≡ cond (nat_lt q (n + 1)) (f q) (g q))
      (λ lt. sym (ap (λ b. cond b (f q) (g q)) (lt-ltb q (n + 1) (omega (arith, ltb-true q n lt)))))
      (λ past. sym (ap (λ b. cond b (f q) (g q)) (le-ltb q (n + 1) (omega (arith, ltb-false q n past)))))))

  -- a write of what was there changes nothing
  pub put_old : (f : ℕ → X) (k : ℕ) (v : X) → f k ≡ v → put f k v ≡ f
  put_old f k v e = fun_ext (λ q. put_both (λ x. x ≡ f q) f k v q (λ h. sym e ∙ ap f (sym h)) (λ _. refl))
