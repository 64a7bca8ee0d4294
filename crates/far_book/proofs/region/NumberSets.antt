-- What bits say of a set of numbers.
use Rattle.std.proofs.Common.{◌≡◌, ℕ, ◌-◌, ◌*◌, ◌/◌, ◌^◌, ◌%◌, ◌<◌, ◌≤◌, true, false, arith, sym, ap, ◌∙◌, nat_lt, nat_eq, inl, inr, w64}
use Rattle.std.specs.Prelude.{◌==◌, ◌||◌, ◌&&◌, not, bit_and, bit_or}
use Rattle.std.specs.Int.{bit_at, trailing_zeros}
use Rattle.std.proofs.lemmas.Bool.{cases_lt, cases_eq, eq-eqb, ne_eqb, lt-ltb, le-ltb, false≢true}
use Rattle.std.proofs.lemmas.Nat.{one_shl}
use Rattle.std.proofs.lemmas.Nat.Bits.{shr_and_one, bit_at_ones, bit_at_above, bit_at_ones_above, bit_at_set_same, bit_at_set_other, bit_at_clear_same, bit_at_clear_other, bit_at-trailing_zeros, bit_at-zero}
use Rattle.far_book.specs.book.NumberSet.{has, IsLowest}

-- a bit is set or not
bit_is : (b : ℕ) → b ≡ 1 → nat_eq b 1 ≡ true
bit_is b e = eq-eqb b 1 e

bit_is_not : (b : ℕ) → b ≡ 0 → nat_eq b 1 ≡ false
bit_is_not b e = ne_eqb b 1 (λ h. omega arith)

pub has_word : (w k : ℕ) → nat_eq (bit_and (w / 2 ^ k) 1) 1 ≡ has record { word = w } k
unfolding has
has_word w k = ap (λ b. nat_eq b 1) (shr_and_one w k)

pub has_below : (end k : ℕ) → has record { word = 2 ^ end - 1 } k ≡ nat_lt k end
unfolding has
has_below end k = elim (cases_lt k end) [
  | inl lt ↦ bit_is _ (bit_at_ones end k lt) ∙ sym (lt-ltb k end lt)
  | inr le ↦ bit_is_not _ (bit_at_ones_above end k le) ∙ sym (le-ltb k end le)
]

pub has_shifted : (end k : ℕ) → end < 64 → has record { word = 1 * 2 ^ end % 2 ^ 64 - 1 } k ≡ nat_lt k end
has_shifted end k lt = ap (λ w. has record { word = w - 1 } k) (one_shl end 64 lt) ∙ has_below end k

pub has_more : (w k i : ℕ) → k < 64 → has record { word = bit_or w (1 * 2 ^ k % 2 ^ 64) } i ≡ ((i == k) || has record { word = w } i)
unfolding has
has_more w k i lt = elim (cases_eq i k) [
  | inl e ↦ bit_is _ (ap (bit_at (bit_or w (1 * 2 ^ k % 2 ^ 64))) e ∙ bit_at_set_same w64 w k lt) ∙ sym (ap (λ b. b || nat_eq (bit_at w i) 1) (eq-eqb i k e))
  | inr ne ↦ ap (λ b. nat_eq b 1) (bit_at_set_other w64 w k lt i ne) ∙ sym (ap (λ b. b || nat_eq (bit_at w i) 1) (ne_eqb i k ne))
]

pub has_less : (w k i : ℕ) → k < 64 → i < 64 → has record { word = bit_and w (2 ^ 64 - 1 - 1 * 2 ^ k % 2 ^ 64) } i ≡ (not (i == k) && has record { word = w } i)
unfolding has
has_less w k i lt within = elim (cases_eq i k) [
  | inl e ↦ bit_is_not _ (ap (bit_at (bit_and w (2 ^ 64 - 1 - 1 * 2 ^ k % 2 ^ 64))) e ∙ bit_at_clear_same w64 w k lt) ∙ sym (ap (λ b. not b && nat_eq (bit_at w i) 1) (eq-eqb i k e))
  | inr ne ↦ ap (λ b. nat_eq b 1) (bit_at_clear_other w64 w k lt i within ne) ∙ sym (ap (λ b. not b && nat_eq (bit_at w i) 1) (ne_eqb i k ne))
]

pub has_none : (k : ℕ) → has record { word = 0 } k ≡ false
unfolding has
has_none k = bit_is_not _ (bit_at-zero k)

pub has_beyond : (w k : ℕ) → w < 2 ^ 64 → 64 ≤ k → has record { word = w } k ≡ false
unfolding has
has_beyond w k fits over = bit_is_not _ (bit_at_above w 64 k fits over)

pub has_lowest : (w : ℕ) → 0 < w → w < 2 ^ 64 → IsLowest record { word = w } (trailing_zeros w64 w)
unfolding has
has_lowest w some fits = let t = bit_at-trailing_zeros w64 w some fits in (t.0, bit_is _ t.1, λ i lt. bit_is_not _ (t.2 i lt))

-- a word that has no number is 0
pub none_word : (w : ℕ) → w < 2 ^ 64 → ((k : ℕ) → has record { word = w } k ≡ false) → w ≡ 0
none_word w fits none = elim (cases_lt 0 w) [
  | inl some ↦ absurd (false≢true (sym (none (trailing_zeros w64 w)) ∙ (has_lowest w some fits).1))
  | inr le ↦ omega (arith, le)
]
