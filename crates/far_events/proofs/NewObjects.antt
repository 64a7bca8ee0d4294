-- A new object of given bytes: what its writes leave.
use Rattle.std.proofs.Common.{◌≡◌, ℕ, ◌+◌, ◌-◌, ◌*◌, ◌/◌, ◌%◌, ◌^◌, ◌<◌, ◌≤◌, true, arith, List, ap, sym, subst, ◌∙◌, inl, inr, length, get_or}
use Rattle.std.specs.Prelude.{◌⊎◌, ◌&&◌, nat_le, nat_lt, slice_index}
use Rattle.std.proofs.lemmas.Bool.{cases_lt, cond_both}
use Rattle.std.proofs.lemmas.List.{ext_get_or}
use Rattle.far_word.specs.Bytes.{byte_at}
use Rattle.far_word.specs.declared.pointer.Place.{Place}
use Rattle.far_word.specs.Header.{head_word}
use Rattle.far_word.specs.Sizes.{words_for}
use Rattle.far_events.specs.events.NewObjects.{made_with, made_word, words_with}
use Rattle.far_events.specs.events.NewSpans.{with_span}
use Rattle.far_events.specs.events.Ranges.{with_row}
use Rattle.far_events.specs.events.Written.{written_words}
use Rattle.far_events.specs.state.State.{State, addr, put}
use Rattle.far_events.specs.state.Words.{with_bytes}
use Rattle.far_events.proofs.Put.{put_both}
use Rattle.far_events.proofs.Rows.{row_in, row_is, row_out}
use Rattle.far_events.proofs.Splices.{untouched, written_get, written_long}
use Rattle.far_events.proofs.Words.{word_same}

-- ---- words that bytes are written over, from the first on
-- the old word doesn't matter where it has none of its bytes left
over_word : (f g : ℕ → ℕ) (bytes : List ℕ) (k : ℕ) → (length bytes < 8 * k + 8 → f k ≡ g k) → with_bytes f 0 bytes k ≡ with_bytes g 0 bytes k
over_word f g bytes k same = word_same (with_row (byte_at f) 0 (length bytes) row) (with_row (byte_at g) 0 (length bytes) row) k k (λ j lt. elim (cases_lt (8 * k + j) (length bytes)) [
  | inl low ↦ row_in (byte_at f) 0 (length bytes) row (8 * k + j) (omega arith) (omega arith) ∙ sym (row_in (byte_at g) 0 (length bytes) row (8 * k + j) (omega arith) (omega arith))
  | inr past ↦ row_out (byte_at f) 0 (length bytes) row (8 * k + j) (inr (omega arith)) ∙ left j lt (same (omega arith)) ∙ sym (row_out (byte_at g) 0 (length bytes) row (8 * k + j) (inr (omega arith)))
]) where
  row : ℕ → ℕ
  row i = get_or bytes i 0

  left : (j : ℕ) → j < 8 → f k ≡ g k → byte_at f (8 * k + j) ≡ byte_at g (8 * k + j)
  left j lt e =
      let at : (8 * k + j) / 8 ≡ k = omega arith in
      ap (λ i. f i / 2 ^ (8 * ((8 * k + j) % 8)) % 256) at ∙ ap (λ x. x / 2 ^ (8 * ((8 * k + j) % 8)) % 256) e ∙ sym (ap (λ i. g i / 2 ^ (8 * ((8 * k + j) % 8)) % 256) at)

-- nor do words behind the bytes
pub none_written : (bytes : List ℕ) (k : ℕ) → length bytes ≤ 8 * k → words_with bytes k ≡ 0
none_written bytes k past = untouched (λ _. 0) 0 (length bytes) (λ i. get_or bytes i 0) k (omega arith) (inr (omega arith))

-- bytes written over words that are 0 where they have one that isn't written
module _ (base word : ℕ → ℕ) (a n : ℕ) (bytes : List ℕ) (front : words_for (length bytes) ≤ n) (beside : (k : ℕ) → (k < a) ⊎ (a + n ≤ k) → word k ≡ base k)
    (blank : (k : ℕ) → k < n → length bytes < 8 * k + 8 → word (a + k) ≡ 0) where
  abbrev found : List ℕ
  found = written_words (λ i. word (a + i)) 0 bytes

  pub found_long : length found ≡ words_for (length bytes)
  found_long = written_long (λ i. word (a + i)) 0 bytes ∙ omega arith

  found_at : (k : ℕ) → k < words_for (length bytes) → slice_index found k ≡ words_with bytes k
  found_at k lt =
      let all : words_for (0 + length bytes) - 0 / 8 ≡ words_for (length bytes) = omega arith in
      let at : 0 / 8 + k ≡ k = omega arith in
      written_get (λ i. word (a + i)) 0 bytes k (omega (arith, all)) ∙ ap (with_bytes (λ i. word (a + i)) 0 bytes) at ∙ over_word (λ i. word (a + i)) (λ _. 0) bytes k (λ short. blank k (omega (arith, front)) short)

  -- they are those of the bytes
  pub found_words : found ≡ written_words (λ _. 0) 0 bytes
  found_words =
      let all : words_for (0 + length bytes) - 0 / 8 ≡ words_for (length bytes) = omega arith in
      ext_get_or 0 found (written_words (λ _. 0) 0 bytes) (found_long ∙ sym (written_long (λ _. 0) 0 bytes ∙ all)) (λ k lt.
      let at : k ≡ 0 / 8 + k = omega arith in
      found_at k (omega (arith, found_long)) ∙ ap (words_with bytes) at ∙ sym (written_get (λ _. 0) 0 bytes k (omega (arith, all, found_long))))

  pub found_row : with_row word a (length found) (λ k. slice_index found k) ≡ with_row base a n (words_with bytes)
  found_row = row_is base (with_row word a (length found) (λ k. slice_index found k)) a n (words_with bytes)
      (λ k low high. elim (cases_lt k (a + length found)) [
        | inl lt ↦ row_in word a (length found) (λ k. slice_index found k) k low lt ∙ found_at (k - a) (omega (arith, found_long))
        | inr past ↦ (let at : a + (k - a) ≡ k = omega arith in
            row_out word a (length found) (λ k. slice_index found k) k (inr past) ∙ ap word (sym at) ∙ blank (k - a) (omega arith) (omega (arith, found_long)) ∙ sym (none_written bytes (k - a) (omega (arith, found_long))))
      ])
      (λ k out. row_out word a (length found) (λ k. slice_index found k) k (further k out) ∙ beside k out) where
        further : (k : ℕ) → (k < a) ⊎ (a + n ≤ k) → (k < a) ⊎ (a + length found ≤ k)
        further k (inl low) = inl low
        further k (inr high) = inr (omega (arith, front, found_long))

-- a header, words of 0 from the one on in which the bytes end, and the bytes over the words behind the header
module _ (word : ℕ → ℕ) (a h n : ℕ) (bytes : List ℕ) (front : words_for (length bytes) ≤ n) where
  abbrev headed_word : ℕ → ℕ
  headed_word = put word a h

  abbrev blanked : ℕ → ℕ
  blanked = with_row headed_word (a + 1 + length bytes / 8) (n - length bytes / 8) (λ _. 0)

  blanked_beside : (k : ℕ) → (k < a + 1) ⊎ (a + 1 + n ≤ k) → blanked k ≡ headed_word k
  blanked_beside k (inl low) = row_out headed_word (a + 1 + length bytes / 8) (n - length bytes / 8) (λ _. 0) k (inl (omega arith))
  blanked_beside k (inr high) = row_out headed_word (a + 1 + length bytes / 8) (n - length bytes / 8) (λ _. 0) k (inr (omega (arith, front)))

  blanked_there : (k : ℕ) → k < n → length bytes < 8 * k + 8 → blanked (a + 1 + k) ≡ 0
  blanked_there k lt short = row_in headed_word (a + 1 + length bytes / 8) (n - length bytes / 8) (λ _. 0) (a + 1 + k) (omega arith) (omega (arith, front))

  pub object_row : with_row blanked (a + 1) (length (written_words (λ i. blanked (a + 1 + i)) 0 bytes)) (λ k. slice_index (written_words (λ i. blanked (a + 1 + i)) 0 bytes) k)
      ≡ with_row headed_word (a + 1) n (words_with bytes)
  object_row = found_row headed_word blanked (a + 1) n bytes front blanked_beside blanked_there

-- so the memory writes them
pub object_written : (s t u v : State) (a h n : ℕ) (bytes : List ℕ) → words_for (length bytes) ≤ n → (first head from count start : ℕ) → t ≡ record s { word = put s.word first head } →
    u ≡ record t { word = with_row t.word from count (λ _. 0) } →
    v ≡ record u { word = with_row u.word (start + 0 / 8) (length (written_words (λ i. u.word (start + i)) 0 bytes)) (λ k. slice_index (written_words (λ i. u.word (start + i)) 0 bytes) k) } →
    first ≡ a → head ≡ h → from ≡ a + 1 + length bytes / 8 → count ≡ n - length bytes / 8 → start ≡ a + 1 → v ≡ record s { word = with_row (put s.word a h) (a + 1) n (words_with bytes) }
object_written s t u v a h n bytes front first head from count start headed ended written firsts heads froms counts starts =
    let f : ℕ → ℕ = blanked s.word a h n bytes front in
    let both : u ≡ record s { word = f } = ended ∙ ap (λ (y : State). record y { word = with_row y.word from count (λ _. 0) }) headed ∙ (λ i. record s { word = with_row (put s.word (firsts i) (heads i)) (froms i) (counts i) (λ _. 0) }) in
    let at : a + 1 + 0 / 8 ≡ a + 1 = omega arith in
    written
    ∙ (λ i. record (both i) { word = with_row (both i).word (starts i + 0 / 8) (length (written_words (λ k. (both i).word (starts i + k)) 0 bytes)) (λ k. slice_index (written_words (λ j. (both i).word (starts i + j)) 0 bytes) k) })
    ∙ ap (λ b. record s { word = with_row f b (length (written_words (λ k. f (a + 1 + k)) 0 bytes)) (λ k. slice_index (written_words (λ j. f (a + 1 + j)) 0 bytes) k) }) at
    ∙ ap (λ (g : ℕ → ℕ). record s { word = g }) (object_row s.word a h n bytes front)

pub object_wide : (s t u : State) (first head from count : ℕ) → t ≡ record s { word = put s.word first head } → u ≡ record t { word = with_row t.word from count (λ _. 0) } → head < 2 ^ 64 → ((a : ℕ) → s.word a < 2 ^ 64) →
    (a : ℕ) → u.word a < 2 ^ 64
object_wide s t u first head from count headed ended fits wide a =
    subst (λ (y : State). y.word a < 2 ^ 64) (sym (ended ∙ ap (λ (y : State). record y { word = with_row y.word from count (λ _. 0) }) headed))
    (cond_both (nat_le from a && nat_lt a (from + count)) 0 (put s.word first head a) (λ w. w < 2 ^ 64) (λ _. omega arith) (λ _. put_both (λ w. w < 2 ^ 64) s.word first head a (λ _. fits) (λ _. wide a)))

-- and makes the object
pub object_made : (s t u v : State) (p len ds : ℕ) (place : Place) (bytes : List ℕ) (word : ℕ) →
    t ≡ record s { word = with_row (put s.word (addr place) (head_word p len ds)) (addr place + 1) (words_for len) (words_with bytes) } →
    word ≡ made_word len ds place → u ≡ with_span t p word len place → v ≡ record u { used = put u.used p true } → v ≡ made_with s p len ds place bytes
object_made s t u v p len ds place bytes word written is named used = used ∙ ap (λ (y : State). record y { used = put y.used p true }) (named ∙ (λ i. with_span (written i) p (is i) len place))
