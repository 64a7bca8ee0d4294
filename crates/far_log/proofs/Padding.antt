-- The bits behind the last byte of an object: one limit on its last data word, and what its bytes pack into.
use Rattle.std.proofs.Common.{◌≡◌, ℕ, ◌+◌, ◌-◌, ◌*◌, ◌/◌, ◌%◌, ◌^◌, ◌<◌, ◌≤◌, zero, suc, arith, ap, subst, get_or, inl, inr}
use Rattle.std.specs.Prelude.{◌↔◌}
use Rattle.std.proofs.lemmas.Bool.{cases_lt}
use Rattle.std.proofs.lemmas.List.{get_or_past}
use lib.Pow.{pow_mono}
use Rattle.far_word.specs.Bytes.{bytes_of, packed_word}
use Rattle.far_word.specs.Sizes.{words_for}
use Rattle.far_word.proofs.ByteLaws.{length-bytes_of, bytes_of-small}
use Rattle.far_log.specs.declared.span.Span.{Span}
use Rattle.far_log.specs.Spans.{IsPadded}
use Rattle.far_log.specs.Walk.{last_limit}

-- a word stays below a power exactly where it is at most all ones shifted down
pub below_ones : (spare w : ℕ) → spare < 8 → (w ≤ (2 ^ 64 - 1) / 2 ^ (8 * spare)) ↔ (w < 2 ^ (8 * (8 - spare)))
below_ones zero w lt = (λ h. omega arith, λ h. omega arith)
below_ones (suc zero) w lt = (λ h. omega arith, λ h. omega arith)
below_ones (suc (suc zero)) w lt = (λ h. omega arith, λ h. omega arith)
below_ones (suc (suc (suc zero))) w lt = (λ h. omega arith, λ h. omega arith)
below_ones (suc (suc (suc (suc zero)))) w lt = (λ h. omega arith, λ h. omega arith)
below_ones (suc (suc (suc (suc (suc zero))))) w lt = (λ h. omega arith, λ h. omega arith)
below_ones (suc (suc (suc (suc (suc (suc zero)))))) w lt = (λ h. omega arith, λ h. omega arith)
below_ones (suc (suc (suc (suc (suc (suc (suc zero))))))) w lt = (λ h. omega arith, λ h. omega arith)
below_ones (suc (suc (suc (suc (suc (suc (suc (suc n)))))))) w lt = absurd (omega arith)

-- the last data word of an object has this many bytes spare
pub limit_is : (len : ℕ) → 0 < len → last_limit len ≡ 2 ^ (8 * (8 - (8 - len % 8) % 8))
limit_is len some = let e : len - 8 * (words_for len - 1) ≡ 8 - (8 - len % 8) % 8 = omega arith in ap (λ n. 2 ^ (8 * n)) e

-- words of 64 bits are padded where the last one is
pub padded_by_last : (word : ℕ → ℕ) (span : Span) → ((i : ℕ) → word i < 2 ^ 64) → 0 < span.len → word (span.at + words_for span.len) < last_limit span.len → IsPadded word span
padded_by_last word span fits some last i lt = elim (cases_lt (i + 1) (words_for span.len)) [
  | inl early ↦ (let more : 2 ^ 64 ≤ 2 ^ (8 * (span.len - 8 * i)) = (let h : 64 ≤ 8 * (span.len - 8 * i) = omega arith in pow_mono h) in
      omega (arith, fits (span.at + 1 + i), more))
  | inr end ↦ (let at : span.at + words_for span.len ≡ span.at + 1 + i = omega arith in
      let n : words_for span.len - 1 ≡ i = omega arith in
      subst (λ k. word k < 2 ^ (8 * (span.len - 8 * i))) at (subst (λ k. word (span.at + words_for span.len) < 2 ^ (8 * (span.len - 8 * k))) n last))
]

pub last_padded : (word : ℕ → ℕ) (span : Span) → 0 < span.len → IsPadded word span → word (span.at + words_for span.len) < last_limit span.len
last_padded word span some padded =
    let at : span.at + 1 + (words_for span.len - 1) ≡ span.at + words_for span.len = omega arith in
    subst (λ k. word k < last_limit span.len) at (padded (words_for span.len - 1) (omega arith))

-- ---- the word of some bytes has zeros behind the last
sum_small : (left : ℕ) (b : ℕ → ℕ) → left < 8 → ((k : ℕ) → b k < 256) → ((k : ℕ) → left ≤ k → b k ≡ 0) →
    b 0 + b 1 * 2 ^ 8 + b 2 * 2 ^ 16 + b 3 * 2 ^ 24 + b 4 * 2 ^ 32 + b 5 * 2 ^ 40 + b 6 * 2 ^ 48 + b 7 * 2 ^ 56 < 2 ^ (8 * left)
sum_small zero b lt small none = omega (arith, none 0, none 1, none 2, none 3, none 4, none 5, none 6, none 7)
sum_small (suc zero) b lt small none = omega (arith, small 0, none 1, none 2, none 3, none 4, none 5, none 6, none 7)
sum_small (suc (suc zero)) b lt small none = omega (arith, small 0, small 1, none 2, none 3, none 4, none 5, none 6, none 7)
sum_small (suc (suc (suc zero))) b lt small none = omega (arith, small 0, small 1, small 2, none 3, none 4, none 5, none 6, none 7)
sum_small (suc (suc (suc (suc zero)))) b lt small none = omega (arith, small 0, small 1, small 2, small 3, none 4, none 5, none 6, none 7)
sum_small (suc (suc (suc (suc (suc zero))))) b lt small none = omega (arith, small 0, small 1, small 2, small 3, small 4, none 5, none 6, none 7)
sum_small (suc (suc (suc (suc (suc (suc zero)))))) b lt small none = omega (arith, small 0, small 1, small 2, small 3, small 4, small 5, none 6, none 7)
sum_small (suc (suc (suc (suc (suc (suc (suc zero))))))) b lt small none = omega (arith, small 0, small 1, small 2, small 3, small 4, small 5, small 6, none 7)
sum_small (suc (suc (suc (suc (suc (suc (suc (suc n)))))))) b lt small none = absurd (omega arith)

pub packed_small : (word : ℕ → ℕ) (n i : ℕ) → packed_word (bytes_of word n) i < 2 ^ 64 → packed_word (bytes_of word n) i < 2 ^ (8 * (n - 8 * i))
packed_small word n i fits = elim (cases_lt (n - 8 * i) 8) [
  | inl few ↦ (let same : 8 * i + 0 ≡ 8 * i = omega arith in
      let first : get_or (bytes_of word n) (8 * i + 0) 0 ≡ get_or (bytes_of word n) (8 * i) 0 = ap (λ k. get_or (bytes_of word n) k 0) same in
      let r = sum_small (n - 8 * i) (λ k. get_or (bytes_of word n) (8 * i + k) 0) few (λ k. bytes_of-small word n (8 * i + k))
      (λ k past. get_or_past (bytes_of word n) (8 * i + k) 0 (omega (arith, length-bytes_of word n))) in
      subst (λ x. x + get_or (bytes_of word n) (8 * i + 1) 0 * 2 ^ 8 + get_or (bytes_of word n) (8 * i + 2) 0 * 2 ^ 16 + get_or (bytes_of word n) (8 * i + 3) 0 * 2 ^ 24
      + get_or (bytes_of word n) (8 * i + 4) 0 * 2 ^ 32 + get_or (bytes_of word n) (8 * i + 5) 0 * 2 ^ 40 + get_or (bytes_of word n) (8 * i + 6) 0 * 2 ^ 48
      + get_or (bytes_of word n) (8 * i + 7) 0 * 2 ^ 56 < 2 ^ (8 * (n - 8 * i))) first r)
  | inr many ↦ (let more : 2 ^ 64 ≤ 2 ^ (8 * (n - 8 * i)) = (let h : 64 ≤ 8 * (n - 8 * i) = omega arith in pow_mono h) in omega (arith, fits, more))
]
