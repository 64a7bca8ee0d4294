-- A set of logs as a number: one log more is one bit more.
use Rattle.std.proofs.Common.{◌≡◌, ℕ, ◌+◌, ◌*◌, ◌^◌, ◌%◌, ◌<◌, ◌&&◌, ◌||◌, ◌==◌, Bool, true, false, eqb, nat_lt, bit_or, List, [], ◌∷◌, ◌++◌, take, inl, inr, arith, ap, sym, refl, ◌∙◌, w64}
use Rattle.std.proofs.lemmas.Bool.{cases_eq, eq-eqb, ne_eqb}
use Rattle.std.proofs.lemmas.Bool.Decides.{nat_tests}
use Rattle.std.proofs.lemmas.List.Folds.{list_any-append}
use Rattle.std.proofs.lemmas.Nat.Bits.{bit_at_set_other, bit_at_set_same}
use Rattle.far_word.specs.declared.sizes.TheConstants.{MOST_LOGS}
use Rattle.far_events.specs.events.Advance.{is_among}
use Rattle.far_evac.specs.RoundSteps.{among}

or_no : (b : Bool) → (b || false) ≡ b
or_no true = refl
or_no false = refl

or_yes : (b : Bool) → (b || true) ≡ true
or_yes true = refl
or_yes false = refl

pub with_log : (logs x : ℕ) → x < MOST_LOGS → (k : ℕ) → is_among (bit_or logs (1 * 2 ^ x % 18446744073709551616)) k ≡ (is_among logs k || eqb k x)
with_log logs x lt k = elim (cases_eq k x) [
  | inl e ↦ (
      let below : nat_lt x MOST_LOGS ≡ true = grind (arith, nat_tests, lt) in
      ap (is_among (bit_or logs (1 * 2 ^ x % 18446744073709551616))) e
      ∙ ap (λ v. nat_lt x MOST_LOGS && (v == 1)) (bit_at_set_same w64 logs x lt)
      ∙ ap (λ b. b && true) below
      ∙ sym (ap (λ b. is_among logs k || b) (eq-eqb k x e) ∙ or_yes (is_among logs k))
      )
  | inr ne ↦ ap (λ v. nat_lt k MOST_LOGS && (v == 1)) (bit_at_set_other w64 logs x lt k ne)
      ∙ sym (ap (λ b. is_among logs k || b) (ne_eqb k x ne) ∙ or_no (is_among logs k))
]

pub one_log_more : (logs x i : ℕ) (xs : List ℕ) → x < MOST_LOGS → take (i + 1) xs ≡ take i xs ++ x ∷ [] → ((k : ℕ) → is_among logs k ≡ among (take i xs) k) →
    (k : ℕ) → is_among (bit_or logs (1 * 2 ^ x % 18446744073709551616)) k ≡ among (take (i + 1) xs) k
one_log_more logs x i xs lt next so_far k =
    with_log logs x lt k ∙ ap (λ b. b || eqb k x) (so_far k)
    ∙ sym (ap (λ ys. among ys k) next ∙ list_any-append (eqb k) (take i xs) (x ∷ []) ∙ ap (λ b. among (take i xs) k || b) (or_no (eqb k x)))
