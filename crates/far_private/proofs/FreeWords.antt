-- Words of bits and their summary: one is set, one is unset, the lowest is found.
use Rattle.std.proofs.Common.{◌≡◌, ◌≢◌, refl, ℕ, ◌/◌, ◌%◌, ◌*◌, ◌^◌, ◌-◌, ◌+◌, ◌<◌, ◌∙◌, true, false, arith, ap, sym, inl, inr, List, length, get_or, set, replicate, w32, w64}
use Rattle.std.specs.Prelude.{◌==◌, ◌||◌, ◌&&◌, not, bit_and, bit_or}
use Rattle.std.specs.Int.{bit_at, trailing_zeros}
use Rattle.std.proofs.lemmas.Bool.{cases_eq, eq-eqb, eqb-true, ne_eqb, not-false, true≢false}
use Rattle.std.proofs.lemmas.Grind.{get_or-set_at}
use Rattle.std.proofs.lemmas.List.{get_or-replicate, get_or-set_other, length-set}
use Rattle.std.proofs.lemmas.Nat.Bits.{bit_at_set_same, bit_at_set_other, bit_at_clear_same, bit_at_clear_other, bit_at-trailing_zeros, bit_at-zero}
use Rattle.far_private.specs.FreeBits.{IsSummary, is_set, is_set_in}

set_by : (n k : ℕ) → bit_at n k ≡ 1 → is_set n k ≡ true
set_by n k e = eq-eqb (bit_at n k) 1 e

unset_by : (n k : ℕ) → bit_at n k ≡ 0 → is_set n k ≡ false
unset_by n k e = ne_eqb (bit_at n k) 1 (λ h. omega (arith, e, h))

zero_unset : (k : ℕ) → is_set 0 k ≡ false
zero_unset k = unset_by 0 k (bit_at-zero k)

some_bit : (n k : ℕ) → bit_at n k ≡ 1 → n ≢ 0
some_bit n k e z = omega (arith, sym (ap (λ x. bit_at x k) z) ∙ e, bit_at-zero k)

-- a number that isn't 0
not_zero : (n : ℕ) → n ≢ 0 → not (n == 0) ≡ true
not_zero n ne = ap not (ne_eqb n 0 ne)

is_zero : (n : ℕ) → n ≡ 0 → not (n == 0) ≡ false
is_zero n e = ap not (eq-eqb n 0 e)

-- ---- words that are one number
module _ (n w : ℕ) where
  pub all_set : ((k : ℕ) → k < 64 → bit_at w k ≡ 1) → (p : ℕ) → p / 64 < n → is_set_in (replicate n w) p ≡ true
  all_set ones p lt = ap (λ x. is_set x (p % 64)) (get_or-replicate n (p / 64) w 0 lt) ∙ set_by w (p % 64) (ones (p % 64) (omega arith))

  pub all_there : (s : ℕ) → w ≢ 0 → ((k : ℕ) → k < n → bit_at s k ≡ 1) → (k : ℕ) → k < n → is_set s k ≡ not (get_or (replicate n w) k 0 == 0)
  all_there s some ones k lt = set_by s k (ones k lt) ∙ sym (not_zero w some) ∙ ap (λ x. not (x == 0)) (sym (get_or-replicate n k w 0 lt))

-- ---- a word is another
module _ (words : List ℕ) (at v : ℕ) (inside : at < length words) where
  here : (k : ℕ) → k ≡ at → get_or (set words at v) k 0 ≡ v
  here k e = get_or-set_at words at k v 0 e inside

  there : (k : ℕ) → k ≢ at → get_or (set words at v) k 0 ≡ get_or words k 0
  there k ne = get_or-set_other words at k v 0 ne

  others : (p : ℕ) → p / 64 ≡ at → ((k : ℕ) → k < 64 → k ≢ p % 64 → bit_at v k ≡ bit_at (get_or words at 0) k) → (q : ℕ) → q ≢ p → is_set_in (set words at v) q ≡ is_set_in words q
  others p own keep q ne = elim (cases_eq (q / 64) at) [
    | inl e ↦ ap (λ x. is_set x (q % 64)) (here (q / 64) e) ∙ ap (λ b. b == 1) (keep (q % 64) (omega arith) (λ f. ne (omega (arith, own, e, f)))) ∙ ap (λ k. is_set (get_or words k 0) (q % 64)) (sym e)
    | inr apart ↦ ap (λ x. is_set x (q % 64)) (there (q / 64) apart)
  ]

  itself : (p : ℕ) → p / 64 ≡ at → (q : ℕ) → q ≡ p → is_set_in (set words at v) q ≡ is_set v (p % 64)
  itself p own q e = ap (λ x. is_set x (q % 64)) (here (q / 64) (ap (λ k. k / 64) e ∙ own)) ∙ ap (λ k. is_set v (k % 64)) e

  summed_here : (s new : ℕ) → IsSummary s words → is_set new at ≡ not (v == 0) → ((k : ℕ) → k < 32 → k ≢ at → is_set new k ≡ is_set s k) → (k : ℕ) → k < 32 → is_set new k ≡ not (get_or (set words at v) k 0 == 0)
  summed_here s new was self keep k lt = elim (cases_eq k at) [
    | inl e ↦ ap (is_set new) e ∙ self ∙ ap (λ x. not (x == 0)) (sym (here k e))
    | inr ne ↦ keep k lt ne ∙ was.each k lt ∙ ap (λ x. not (x == 0)) (sym (there k ne))
  ]

-- ---- a bit is set, a bit is unset
module _ (words : List ℕ) (s p : ℕ) (within : p < 2048) (was : IsSummary s words) where
  abbrev at : ℕ
  at = p / 64

  abbrev bit : ℕ
  bit = p % 64

  abbrev word : ℕ
  word = get_or words (p / 64) 0

  inside : at < length words
  inside = omega (arith, within, was.sized)

  low : at < 32
  low = omega (arith, within)

  small : bit < 64
  small = omega arith

  abbrev more : ℕ
  more = bit_or word (1 * 2 ^ bit % 2 ^ 64)

  abbrev less : ℕ
  less = bit_and word (2 ^ 64 - 1 - 1 * 2 ^ bit % 2 ^ 64)

  pub set_more : (q : ℕ) → is_set_in (set words at more) q ≡ ((q == p) || is_set_in words q)
  set_more q = elim (cases_eq q p) [
    | inl e ↦ itself words at more inside p refl q e ∙ set_by more bit (bit_at_set_same w64 word bit small) ∙ sym (ap (λ b. b || is_set_in words q) (eq-eqb q p e))
    | inr ne ↦ others words at more inside p refl (λ k lt apart. bit_at_set_other w64 word bit small k apart) q ne ∙ sym (ap (λ b. b || is_set_in words q) (ne_eqb q p ne))
  ]

  pub set_less : (q : ℕ) → is_set_in (set words at less) q ≡ (not (q == p) && is_set_in words q)
  set_less q = elim (cases_eq q p) [
    | inl e ↦ itself words at less inside p refl q e ∙ unset_by less bit (bit_at_clear_same w64 word bit small) ∙ sym (ap (λ b. not b && is_set_in words q) (eq-eqb q p e))
    | inr ne ↦ others words at less inside p refl (λ k lt apart. bit_at_clear_other w64 word bit small k lt apart) q ne ∙ sym (ap (λ b. not b && is_set_in words q) (ne_eqb q p ne))
  ]

  sized_then : (v : ℕ) → length (set words at v) ≡ 32
  sized_then v = length-set words at v ∙ was.sized

  pub more_summed : IsSummary (bit_or s (1 * 2 ^ at % 2 ^ 32)) (set words at more)
  more_summed = record {
    sized = sized_then more;
    each = summed_here words at more inside s (bit_or s (1 * 2 ^ at % 2 ^ 32)) was
        (set_by _ at (bit_at_set_same w32 s at low) ∙ sym (not_zero more (some_bit more bit (bit_at_set_same w64 word bit small))))
        (λ k lt ne. ap (λ b. b == 1) (bit_at_set_other w32 s at low k ne));
  }

  pub none_summed : less ≡ 0 → IsSummary (bit_and s (2 ^ 32 - 1 - 1 * 2 ^ at % 2 ^ 32)) (set words at less)
  none_summed none = record {
    sized = sized_then less;
    each = summed_here words at less inside s (bit_and s (2 ^ 32 - 1 - 1 * 2 ^ at % 2 ^ 32)) was
        (unset_by _ at (bit_at_clear_same w32 s at low) ∙ sym (is_zero less none))
        (λ k lt ne. ap (λ b. b == 1) (bit_at_clear_other w32 s at low k lt ne));
  }

-- ---- the lowest
module _ (words : List ℕ) (s : ℕ) (was : IsSummary s words) where
  word_zero : (k : ℕ) → k < 32 → is_set s k ≡ false → get_or words k 0 ≡ 0
  word_zero k lt off = eqb-true (get_or words k 0) 0 (not-false (get_or words k 0 == 0) (sym (was.each k lt) ∙ off))

  none_in : (q : ℕ) → q / 64 < 32 → is_set s (q / 64) ≡ false → is_set_in words q ≡ false
  none_in q lt off = ap (λ x. is_set x (q % 64)) (word_zero (q / 64) lt off) ∙ zero_unset (q % 64)

  pub none_set : s ≡ 0 → (q : ℕ) → q < 2048 → is_set_in words q ≡ false
  none_set z q lt = none_in q (omega (arith, lt)) (ap (λ x. is_set x (q / 64)) z ∙ zero_unset (q / 64))

  module _ (some : 0 < s) (fits : s < 2 ^ 32) (wide : get_or words (trailing_zeros w32 s) 0 < 2 ^ 64) where
    abbrev first : ℕ
    first = trailing_zeros w32 s

    abbrev last : ℕ
    last = trailing_zeros w64 (get_or words first 0)

    top : (first < 32) × (bit_at s first ≡ 1) × ((k : ℕ) → k < first → bit_at s k ≡ 0)
    top = bit_at-trailing_zeros w32 s some fits

    there_is : get_or words first 0 ≢ 0
    there_is z = true≢false (sym (set_by s first top.1) ∙ was.each first top.0 ∙ is_zero (get_or words first 0) z)

    found : (last < 64) × (bit_at (get_or words first 0) last ≡ 1) × ((k : ℕ) → k < last → bit_at (get_or words first 0) k ≡ 0)
    found = bit_at-trailing_zeros w64 (get_or words first 0) (omega (arith, there_is)) wide

    of_word : (64 * first + last) / 64 ≡ first
    of_word = omega (arith, found.0)

    of_bit : (64 * first + last) % 64 ≡ last
    of_bit = omega (arith, found.0)

    pub lowest_inside : 64 * first + last < 2048
    lowest_inside = omega (arith, top.0, found.0)

    pub lowest_set : is_set_in words (64 * first + last) ≡ true
    lowest_set = ap (λ k. is_set (get_or words k 0) ((64 * first + last) % 64)) of_word ∙ ap (is_set (get_or words first 0)) of_bit ∙ set_by _ last found.1

    pub lowest_first : (q : ℕ) → q < 64 * first + last → is_set_in words q ≡ false
    lowest_first q lt = elim (cases_eq (q / 64) first) [
      | inl e ↦ ap (λ k. is_set (get_or words k 0) (q % 64)) e ∙ unset_by _ (q % 64) (found.2 (q % 64) (omega (arith, lt, e)))
      | inr ne ↦ (let before : q / 64 < first = omega (arith, lt, ne, found.0) in none_in q (omega (arith, before, top.0)) (unset_by s (q / 64) (top.2 (q / 64) before)))
    ]
