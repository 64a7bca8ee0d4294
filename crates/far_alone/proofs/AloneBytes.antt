-- Bytes with some words written over, and bytes with others in the place of some.
use Rattle.std.proofs.Common.{◌≡◌, ◌≢◌, ℕ, zero, suc, ◌+◌, ◌*◌, ◌/◌, ◌%◌, ◌<◌, ◌≤◌, ◌^◌, cond, arith, sym, refl, ap, ◌∙◌, List, length, get_or, inl, inr}
use Rattle.std.proofs.lemmas.Bool.{cases_lt, cases_eq, eq-eqb, ne_eqb}
use Rattle.std.proofs.lemmas.List.{ext_get_or}
use Rattle.far_word.specs.Bytes.{packed_word, with_word, words_of}
use Rattle.far_word.proofs.ByteLaws.{bytes_of-get, bytes_of-words_of, words_of-get}
use Rattle.far_word.proofs.ByteLaws.{with_word-get, length-with_word}
use Rattle.far_alone.specs.Events.{first_word, words_touched}
use Rattle.far_alone.specs.Objects.{with_range}
use Rattle.far_alone.proofs.AloneRuns.{over_all}
use Rattle.far_alone.proofs.Spliced.{AreBytes, length-with_range, with_range_before, with_range_after, with_range_bytes}

-- one byte of the word of eight bytes
byte_of_word : (bytes : List ℕ) → AreBytes bytes → (k : ℕ) → k < length bytes → packed_word bytes (k / 8) / 2 ^ (8 * (k % 8)) % 256 ≡ get_or bytes k 0
byte_of_word bytes small k lt =
    let word : get_or (words_of bytes) (k / 8) 0 ≡ packed_word bytes (k / 8) = words_of-get bytes (k / 8) (omega arith) in
    ap (λ x. x / 2 ^ (8 * (k % 8)) % 256) (sym word) ∙ sym (bytes_of-get (λ i. get_or (words_of bytes) i 0) (length bytes) k lt) ∙ ap (λ (l : List ℕ). get_or l k 0) (bytes_of-words_of bytes small)

pub length-over_all : (bytes : List ℕ) (first n : ℕ) (new : List ℕ) → length (over_all bytes first n new) ≡ length bytes
length-over_all bytes first zero new = refl
length-over_all bytes first (suc n) new = length-over_all (with_word bytes first (packed_word new first)) (first + 1) n new ∙ length-with_word bytes first (packed_word new first)

-- one byte, in a word that is written over or outside
module _ (new : List ℕ) (small : AreBytes new) where
  over_one-in : (bytes : List ℕ) (i k : ℕ) → k < length bytes → k < length new → k / 8 ≡ i → get_or (with_word bytes i (packed_word new i)) k 0 ≡ get_or new k 0
  over_one-in bytes i k lt within e =
      with_word-get bytes i (packed_word new i) k lt ∙ ap (λ b. cond b (packed_word new i / 2 ^ (8 * (k % 8)) % 256) (get_or bytes k 0)) (eq-eqb (k / 8) i e)
      ∙ ap (λ j. packed_word new j / 2 ^ (8 * (k % 8)) % 256) (sym e) ∙ byte_of_word new small k within

  over_one-out : (bytes : List ℕ) (i k : ℕ) → k < length bytes → k / 8 ≢ i → get_or (with_word bytes i (packed_word new i)) k 0 ≡ get_or bytes k 0
  over_one-out bytes i k lt ne =
      with_word-get bytes i (packed_word new i) k lt ∙ ap (λ b. cond b (packed_word new i / 2 ^ (8 * (k % 8)) % 256) (get_or bytes k 0)) (ne_eqb (k / 8) i ne)

  -- a byte that is as it will be, or will be written over, is as it was to be
  over_get : (bytes : List ℕ) (first n k : ℕ) → k < length bytes → k < length new → (k / 8 < first → get_or bytes k 0 ≡ get_or new k 0) → (first + n ≤ k / 8 → get_or bytes k 0 ≡ get_or new k 0) →
      get_or (over_all bytes first n new) k 0 ≡ get_or new k 0
  over_get bytes first zero k lt within below above = elim (cases_lt (k / 8) first) [ inl h ↦ below h | inr h ↦ above (omega arith) ]
  over_get bytes first (suc n) k lt within below above =
      over_get (with_word bytes first (packed_word new first)) (first + 1) n k (omega (arith, length-with_word bytes first (packed_word new first))) within
      (λ h. elim (cases_eq (k / 8) first) [
        | inl e ↦ over_one-in bytes first k lt within e
        | inr ne ↦ (over_one-out bytes first k lt ne ∙ below (omega arith))
      ])
      (λ h. over_one-out bytes first k lt (λ e. omega arith) ∙ above (omega arith))

-- the words that the bytes touch, written over, make the bytes with those in their place
pub over_with_range : (bytes : List ℕ) (from : ℕ) (put : List ℕ) → from + length put ≤ length bytes → AreBytes bytes → AreBytes put → 0 < length put →
    over_all bytes (first_word from) (words_touched from (length put)) (with_range bytes from put) ≡ with_range bytes from put
over_with_range bytes from put fits old new some =
    let same : length (with_range bytes from put) ≡ length bytes = length-with_range bytes from put fits in
    let long : length (over_all bytes (first_word from) (words_touched from (length put)) (with_range bytes from put)) ≡ length bytes = length-over_all bytes (first_word from) (words_touched from (length put)) (with_range bytes from put) in
    ext_get_or 0 _ _ (long ∙ sym same) (λ k lt.
    over_get (with_range bytes from put) (with_range_bytes bytes from put fits old new) bytes (first_word from) (words_touched from (length put)) k (omega (arith, long)) (omega (arith, long, same))
    (λ h. sym (with_range_before bytes from put fits k (omega arith)))
    (λ h. sym (with_range_after bytes from put fits k (omega arith))))
