-- Bytes with others in the place of some: what stands where, and how wide their words are.
use Rattle.std.proofs.Common.{◌≡◌, ℕ, ◌+◌, ◌-◌, ◌*◌, ◌^◌, ◌<◌, ◌≤◌, arith, ap, ◌∙◌, List, ◌++◌, length, get_or, take, drop, inl, inr}
use Rattle.std.proofs.lemmas.Bool.{cases_lt}
use Rattle.std.proofs.lemmas.List.{get_or_past, get_or-take, get_or-drop, get_or_append_left, get_or-append_right, length-take-le, length-append, length-drop}
use Rattle.far_word.specs.Bytes.{packed_word}
use Rattle.far_word.specs.Sizes.{words_for}
use Rattle.far_book.proofs.region.Packing.{part_wide, word_wide}
use Rattle.far_alone.specs.Objects.{with_range}

-- ---- the words of bytes
-- each of the bytes is below 256
abbrev pub AreBytes : List ℕ → Type 0
AreBytes bytes = (k : ℕ) → get_or bytes k 0 < 256

-- a word of bytes leaves zeros behind their end
pub packed_padded : (bytes : List ℕ) (len i : ℕ) → AreBytes bytes → length bytes ≡ len → i < words_for len → packed_word bytes i < 2 ^ (8 * (len - 8 * i))
packed_padded bytes len i small long lt =
    part_wide (λ k. get_or bytes k 0) i (len - 8 * i) small (λ k past. get_or_past bytes k 0 (omega arith)) (omega arith)

-- so is each word of bytes
pub packed_wide : (bytes : List ℕ) → AreBytes bytes → (i : ℕ) → packed_word bytes i < 2 ^ 64
packed_wide bytes small i = word_wide (λ k. get_or bytes k 0) i small

-- ---- some bytes in the place of others
module _ (bytes : List ℕ) (from : ℕ) (new : List ℕ) (fits : from + length new ≤ length bytes) where
  front : length (take from bytes) ≡ from
  front = length-take-le from bytes (omega arith)

  fore : length (take from bytes ++ new) ≡ from + length new
  fore = omega (arith, length-append (take from bytes) new, front)

  -- they are as many
  pub length-with_range : length (with_range bytes from new) ≡ length bytes
  length-with_range = omega (arith, length-append (take from bytes ++ new) (drop (from + length new) bytes), fore, length-drop (from + length new) bytes)

  -- those before stay
  pub with_range_before : (k : ℕ) → k < from → get_or (with_range bytes from new) k 0 ≡ get_or bytes k 0
  with_range_before k lt = get_or_append_left (take from bytes ++ new) (drop (from + length new) bytes) 0 k (omega (arith, fore))
      ∙ get_or_append_left (take from bytes) new 0 k (omega (arith, front)) ∙ get_or-take from bytes k 0 lt

  -- then come the new ones
  pub with_range_inside : (k : ℕ) → from ≤ k → k < from + length new → get_or (with_range bytes from new) k 0 ≡ get_or new (k - from) 0
  with_range_inside k le lt = get_or_append_left (take from bytes ++ new) (drop (from + length new) bytes) 0 k (omega (arith, fore))
      ∙ get_or-append_right (take from bytes) new from k 0 front le

  -- those behind stay
  pub with_range_after : (k : ℕ) → from + length new ≤ k → get_or (with_range bytes from new) k 0 ≡ get_or bytes k 0
  with_range_after k le =
      let at : from + length new + (k - (from + length new)) ≡ k = omega arith in
      get_or-append_right (take from bytes ++ new) (drop (from + length new) bytes) (from + length new) k 0 fore le
      ∙ get_or-drop (from + length new) bytes (k - (from + length new)) 0 ∙ ap (λ q. get_or bytes q 0) at

  -- they are bytes
  pub with_range_bytes : AreBytes bytes → AreBytes new → AreBytes (with_range bytes from new)
  with_range_bytes old small k = elim (cases_lt k from) [
    | inl below ↦ omega (arith, with_range_before k below, old k)
    | inr le ↦ elim (cases_lt k (from + length new)) [
      | inl inside ↦ omega (arith, with_range_inside k le inside, small (k - from))
      | inr above ↦ omega (arith, with_range_after k above, old k)
    ]
  ]
