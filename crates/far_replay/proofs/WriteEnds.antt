-- The words that a write stores are all that it changes of its object's words.
use Rattle.std.proofs.Common.{◌≡◌, ℕ, ◌+◌, ◌-◌, ◌*◌, ◌^◌, ◌<◌, ◌≤◌, ◌⊎◌, sym, ap, ◌∙◌, arith, List, length, get_or, inl, inr}
use Rattle.std.proofs.lemmas.Bool.{cases_lt}
use Rattle.far_word.specs.Bytes.{bytes_of, packed_word}
use Rattle.far_word.specs.Sizes.{words_for}
use Rattle.far_word.proofs.ByteLaws.{length-bytes_of, packs_back}
use Rattle.far_events.specs.events.Ranges.{with_row}
use Rattle.far_alone.specs.Events.{first_word, words_touched}
use Rattle.far_alone.specs.Objects.{with_range}
use Rattle.far_events.proofs.Rows.{row_in, row_out, row_is}
use Rattle.far_events.proofs.Words.{word_same}
use Rattle.far_alone.proofs.Spliced.{with_range_before, with_range_after}

module _ (word : ℕ → ℕ) (d len from : ℕ) (bytes : List ℕ) (fits : from + length bytes ≤ len) (some : 0 < length bytes)
    (wide : (a : ℕ) → word a < 2 ^ 64) (pads : (i : ℕ) → i < words_for len → word (d + i) < 2 ^ (8 * (len - 8 * i))) where
  abbrev old : List ℕ
  old = bytes_of (λ i. word (d + i)) len

  abbrev new : List ℕ
  new = with_range old from bytes

  within : from + length bytes ≤ length old
  within = omega (arith, length-bytes_of (λ i. word (d + i)) len)

  -- a word that the range doesn't touch is as it was
  untouched : (i : ℕ) → i < words_for len → (i < first_word from) ⊎ (first_word from + words_touched from (length bytes) ≤ i) → packed_word new i ≡ word (d + i)
  untouched i lt out =
      word_same (λ k. get_or new k 0) (λ k. get_or old k 0) i i (λ j small. same_byte (8 * i + j) (where_it_is j small out))
      ∙ packs_back (λ i. word (d + i)) len i (wide (d + i)) (pads i lt) where
        where_it_is : (j : ℕ) → j < 8 → (i < first_word from) ⊎ (first_word from + words_touched from (length bytes) ≤ i) → (8 * i + j < from) ⊎ (from + length bytes ≤ 8 * i + j)
        where_it_is j small (inl low) = inl (omega arith)
        where_it_is j small (inr high) = inr (omega arith)

        same_byte : (k : ℕ) → (k < from) ⊎ (from + length bytes ≤ k) → get_or new k 0 ≡ get_or old k 0
        same_byte k (inl low) = with_range_before old from bytes within k low
        same_byte k (inr high) = with_range_after old from bytes within k high

  -- the words that the range touches, made new, are all of the object's made new
  pub row_whole : with_row word (d + first_word from) (words_touched from (length bytes)) (λ i. packed_word new (first_word from + i)) ≡ with_row word d (words_for len) (packed_word new)
  row_whole = row_is word _ d (words_for len) (packed_word new)
      (λ k low high. elim (cases_lt k (d + first_word from)) [
        | inl before ↦ (let at : d + (k - d) ≡ k = omega arith in
            row_out word (d + first_word from) (words_touched from (length bytes)) (λ i. packed_word new (first_word from + i)) k (inl before) ∙ ap word (sym at) ∙ sym (untouched (k - d) (omega arith) (inl (omega arith))))
        | inr le ↦ elim (cases_lt k (d + first_word from + words_touched from (length bytes))) [
          | inl lt ↦ (let at : first_word from + (k - (d + first_word from)) ≡ k - d = omega arith in
              row_in word (d + first_word from) (words_touched from (length bytes)) (λ i. packed_word new (first_word from + i)) k le lt ∙ ap (packed_word new) at)
          | inr behind ↦ (let at : d + (k - d) ≡ k = omega arith in
              row_out word (d + first_word from) (words_touched from (length bytes)) (λ i. packed_word new (first_word from + i)) k (inr behind) ∙ ap word (sym at) ∙ sym (untouched (k - d) (omega arith) (inr (omega arith))))
        ]
      ])
      (λ k out. row_out word (d + first_word from) (words_touched from (length bytes)) (λ i. packed_word new (first_word from + i)) k (apart k out)) where
        apart : (k : ℕ) → (k < d) ⊎ (d + words_for len ≤ k) → (k < d + first_word from) ⊎ (d + first_word from + words_touched from (length bytes) ≤ k)
        apart k (inl low) = inl (omega arith)
        apart k (inr high) = inr (omega arith)
