-- Bytes read from words and written into them, wherever they begin.
use Rattle.std.proofs.Common.{◌≡◌, ℕ, zero, suc, ◌+◌, ◌-◌, ◌*◌, ◌/◌, ◌%◌, ◌^◌, ◌<◌, ◌≤◌, ◌⊎◌, ◌∙◌, arith, ap, sym, refl, subst, inl, inr, List, length, take, drop, get_or, map}
use Rattle.std.specs.Prelude.{slice_range}
use Rattle.std.specs.List.{range_with_len}
use Rattle.std.proofs.lemmas.Bool.{cases_lt}
use Rattle.std.proofs.lemmas.List.{get_or_past, get_or-take, get_or-drop, length-take-le, length-drop, ext_get_or}
use Rattle.std.proofs.lemmas.List.FromFn.{length-map-range_with_len, get_or-map-range_with_len}
use native.Mathlib.Nat.{div-eq_of_lt}
use lib.Pow.{pow_mono}
use Rattle.far_word.specs.Bytes.{byte_at, bytes_of, word_at}
use Rattle.far_word.specs.Sizes.{words_for}
use Rattle.far_word.proofs.ByteLaws.{bytes_of-get, length-bytes_of, packs_back}
use Rattle.far_events.specs.events.Ranges.{with_row}
use Rattle.far_events.specs.state.Words.{with_bytes}
use Rattle.far_events.specs.events.Written.{spliced, written_words}
use borrow.Rule.Slice.PartMut.{put_mid}
use Rattle.far_events.proofs.Rows.{row_in, row_out, row_is, written_in, written_len, written_out}
use Rattle.far_events.proofs.Words.{byte_of, word_same}

-- a byte of words that lie behind others
pub byte_behind : (word : ℕ → ℕ) (a q : ℕ) → byte_at word (8 * a + q) ≡ byte_at (λ i. word (a + i)) q
byte_behind word a q =
    let at : (8 * a + q) / 8 ≡ a + q / 8 = omega arith in
    let place : (8 * a + q) % 8 ≡ q % 8 = omega arith in
    ap (λ i. word i / 2 ^ (8 * ((8 * a + q) % 8)) % 256) at ∙ ap (λ k. word (a + q / 8) / 2 ^ (8 * k) % 256) place

-- bytes that are read are a range of the words' bytes
pub range_read : (word : ℕ → ℕ) (new : List ℕ) (a from n : ℕ) → length new ≡ n → ((k : ℕ) → k < n → get_or new k 0 ≡ byte_at word (8 * a + from + k)) →
    (len : ℕ) → from + n ≤ len → new ≡ slice_range (bytes_of (λ i. word (a + i)) len) from (from + n)
range_read word new a from n long is len inside =
    let all : List ℕ = bytes_of (λ i. word (a + i)) len in
    let size : length (take (from + n - from) (drop from all)) ≡ n =
    length-take-le (from + n - from) (drop from all) (omega (arith, length-drop from all, length-bytes_of (λ i. word (a + i)) len)) ∙ omega arith in
    ext_get_or 0 new (take (from + n - from) (drop from all)) (long ∙ sym size) (λ k lt.
    let at : 8 * a + from + k ≡ 8 * a + (from + k) = omega arith in
    is k (omega (arith, long)) ∙ ap (byte_at word) at ∙ byte_behind word a (from + k) ∙ sym (bytes_of-get (λ i. word (a + i)) len (from + k) (omega (arith, long)))
    ∙ sym (get_or-take (from + n - from) (drop from all) k 0 (omega (arith, long)) ∙ get_or-drop from all k 0))

-- a word is that of its bytes
pub whole_word : (word : ℕ → ℕ) (q : ℕ) → word q < 2 ^ 64 → word_at (byte_at word) q ≡ word q
whole_word word q fits =
    let room : 8 * (8 * q + 8 - 8 * q) ≡ 64 = omega arith in
    word_same (byte_at word) (λ k. get_or (bytes_of word (8 * q + 8)) k 0) q q (λ k lt. sym (bytes_of-get word (8 * q + 8) (8 * q + k) (omega arith)))
    ∙ packs_back word (8 * q + 8) q fits (subst (λ d. word q < 2 ^ d) (sym room) fits)

-- a word that has none of the bytes stays
pub untouched : (word : ℕ → ℕ) (from n : ℕ) (row : ℕ → ℕ) (q : ℕ) → word q < 2 ^ 64 → (8 * q + 8 ≤ from) ⊎ (from + n ≤ 8 * q) → word_at (with_row (byte_at word) from n row) q ≡ word q
untouched word from n row q fits out =
    word_same (with_row (byte_at word) from n row) (byte_at word) q q (λ k lt. row_out (byte_at word) from n row (8 * q + k) (beside k lt out)) ∙ whole_word word q fits where
      beside : (k : ℕ) → k < 8 → (8 * q + 8 ≤ from) ⊎ (from + n ≤ 8 * q) → (8 * q + k < from) ⊎ (from + n ≤ 8 * q + k)
      beside k lt (inl low) = inl (omega arith)
      beside k lt (inr high) = inr (omega arith)

-- bytes written into words that lie behind others
shifted : (word : ℕ → ℕ) (a from : ℕ) (bs : List ℕ) (i : ℕ) → with_bytes word (8 * a + from) bs (a + i) ≡ with_bytes (λ j. word (a + j)) from bs i
shifted word a from bs i = word_same (with_row (byte_at word) (8 * a + from) (length bs) row) (with_row (byte_at (λ j. word (a + j))) from (length bs) row) (a + i) i (λ k lt.
    let at : 8 * (a + i) + k ≡ 8 * a + (8 * i + k) = omega arith in ap (with_row (byte_at word) (8 * a + from) (length bs) row) at ∙ there (8 * i + k)) where
      row : ℕ → ℕ
      row k = get_or bs k 0

      there : (q : ℕ) → with_row (byte_at word) (8 * a + from) (length bs) row (8 * a + q) ≡ with_row (byte_at (λ j. word (a + j))) from (length bs) row q
      there q = elim (cases_lt q from) [
        | inl low ↦ row_out (byte_at word) (8 * a + from) (length bs) row (8 * a + q) (inl (omega arith)) ∙ byte_behind word a q
            ∙ sym (row_out (byte_at (λ j. word (a + j))) from (length bs) row q (inl low))
        | inr le ↦ elim (cases_lt q (from + length bs)) [
          | inl lt ↦ (let same : 8 * a + q - (8 * a + from) ≡ q - from = omega arith in
              row_in (byte_at word) (8 * a + from) (length bs) row (8 * a + q) (omega arith) (omega arith) ∙ ap row same
              ∙ sym (row_in (byte_at (λ j. word (a + j))) from (length bs) row q le lt))
          | inr high ↦ row_out (byte_at word) (8 * a + from) (length bs) row (8 * a + q) (inr (omega arith)) ∙ byte_behind word a q
              ∙ sym (row_out (byte_at (λ j. word (a + j))) from (length bs) row q (inr high))
        ]
      ]

module _ (word : ℕ → ℕ) (from : ℕ) (bs : List ℕ) where
  abbrev count : ℕ
  count = words_for (from + length bs) - from / 8

  pub written_long : length (written_words word from bs) ≡ count
  written_long = length-map-range_with_len (with_bytes word from bs) (from / 8) count

  pub written_get : (k : ℕ) → k < count → get_or (written_words word from bs) k 0 ≡ with_bytes word from bs (from / 8 + k)
  written_get k lt = get_or-map-range_with_len (with_bytes word from bs) (from / 8) count k (from / 8 + k) 0 lt (omega arith)

-- they are a row of the words that have one of them
pub written_row : (word : ℕ → ℕ) (a from : ℕ) (bs : List ℕ) → ((q : ℕ) → word q < 2 ^ 64) →
    with_bytes word (8 * a + from) bs ≡ with_row word (a + from / 8) (length (written_words (λ i. word (a + i)) from bs)) (λ k. get_or (written_words (λ i. word (a + i)) from bs) k 0)
written_row word a from bs wide = row_is word (with_bytes word (8 * a + from) bs) (a + from / 8) (length ws) (λ k. get_or ws k 0)
    (λ q low high. let at : q ≡ a + (from / 8 + (q - (a + from / 8))) = omega arith in
    ap (with_bytes word (8 * a + from) bs) at ∙ shifted word a from bs (from / 8 + (q - (a + from / 8)))
    ∙ sym (written_get (λ i. word (a + i)) from bs (q - (a + from / 8)) (omega (arith, long))))
    (λ q out. untouched word (8 * a + from) (length bs) (λ k. get_or bs k 0) q (wide q) (beside q out)) where
      ws : List ℕ
      ws = written_words (λ i. word (a + i)) from bs

      long : length ws ≡ words_for (from + length bs) - from / 8
      long = written_long (λ i. word (a + i)) from bs

      beside : (q : ℕ) → (q < a + from / 8) ⊎ (a + from / 8 + length ws ≤ q) → (8 * q + 8 ≤ 8 * a + from) ⊎ (8 * a + from + length bs ≤ 8 * q)
      beside q (inl low) = inl (omega arith)
      beside q (inr high) = inr (omega (arith, long))

-- a word of d bytes
short_word : (f : ℕ → ℕ) (i d : ℕ) → ((q : ℕ) → f q < 256) → ((k : ℕ) → k < 8 → d ≤ k → f (8 * i + k) ≡ 0) → word_at f i < 2 ^ (8 * d)
short_word f i zero small none = omega (arith, first, none 1 (omega arith) (omega arith), none 2 (omega arith) (omega arith), none 3 (omega arith) (omega arith), none 4 (omega arith) (omega arith), none 5 (omega arith) (omega arith), none 6 (omega arith) (omega arith), none 7 (omega arith) (omega arith)) where
  first : f (8 * i) ≡ 0
  first = (let at : 8 * i ≡ 8 * i + 0 = omega arith in ap f at) ∙ none 0 (omega arith) (omega arith)
short_word f i (suc zero) small none = omega (arith, small (8 * i), none 1 (omega arith) (omega arith), none 2 (omega arith) (omega arith), none 3 (omega arith) (omega arith), none 4 (omega arith) (omega arith), none 5 (omega arith) (omega arith), none 6 (omega arith) (omega arith), none 7 (omega arith) (omega arith))
short_word f i (suc (suc zero)) small none = omega (arith, small (8 * i), small (8 * i + 1), none 2 (omega arith) (omega arith), none 3 (omega arith) (omega arith), none 4 (omega arith) (omega arith), none 5 (omega arith) (omega arith), none 6 (omega arith) (omega arith), none 7 (omega arith) (omega arith))
short_word f i (suc (suc (suc zero))) small none = omega (arith, small (8 * i), small (8 * i + 1), small (8 * i + 2), none 3 (omega arith) (omega arith), none 4 (omega arith) (omega arith), none 5 (omega arith) (omega arith), none 6 (omega arith) (omega arith), none 7 (omega arith) (omega arith))
short_word f i (suc (suc (suc (suc zero)))) small none = omega (arith, small (8 * i), small (8 * i + 1), small (8 * i + 2), small (8 * i + 3), none 4 (omega arith) (omega arith), none 5 (omega arith) (omega arith), none 6 (omega arith) (omega arith), none 7 (omega arith) (omega arith))
short_word f i (suc (suc (suc (suc (suc zero))))) small none = omega (arith, small (8 * i), small (8 * i + 1), small (8 * i + 2), small (8 * i + 3), small (8 * i + 4), none 5 (omega arith) (omega arith), none 6 (omega arith) (omega arith), none 7 (omega arith) (omega arith))
short_word f i (suc (suc (suc (suc (suc (suc zero)))))) small none = omega (arith, small (8 * i), small (8 * i + 1), small (8 * i + 2), small (8 * i + 3), small (8 * i + 4), small (8 * i + 5), none 6 (omega arith) (omega arith), none 7 (omega arith) (omega arith))
short_word f i (suc (suc (suc (suc (suc (suc (suc zero))))))) small none = omega (arith, small (8 * i), small (8 * i + 1), small (8 * i + 2), small (8 * i + 3), small (8 * i + 4), small (8 * i + 5), small (8 * i + 6), none 7 (omega arith) (omega arith))
short_word f i (suc (suc (suc (suc (suc (suc (suc (suc d)))))))) small none =
    let more : 2 ^ 64 ≤ 2 ^ (8 * suc (suc (suc (suc (suc (suc (suc (suc d)))))))) = (let h : 64 ≤ 8 * suc (suc (suc (suc (suc (suc (suc (suc d))))))) = omega arith in pow_mono h) in
    let whole : word_at f i < 2 ^ 64 = omega (arith, small (8 * i), small (8 * i + 1), small (8 * i + 2), small (8 * i + 3), small (8 * i + 4), small (8 * i + 5), small (8 * i + 6), small (8 * i + 7)) in
    omega (arith, more, whole)

row_small : (word : ℕ → ℕ) (from : ℕ) (bs : List ℕ) → ((k : ℕ) → get_or bs k 0 < 256) → (q : ℕ) → with_row (byte_at word) from (length bs) (λ j. get_or bs j 0) q < 256
row_small word from bs small q = elim (cases_lt q from) [
  | inl low ↦ (let e = row_out (byte_at word) from (length bs) (λ j. get_or bs j 0) q (inl low) in omega (arith, e))
  | inr le ↦ elim (cases_lt q (from + length bs)) [
    | inl lt ↦ (let e = row_in (byte_at word) from (length bs) (λ j. get_or bs j 0) q le lt in omega (arith, e, small (q - from)))
    | inr high ↦ (let e = row_out (byte_at word) from (length bs) (λ j. get_or bs j 0) q (inr high) in omega (arith, e))
  ]
]

-- all are words
pub written_fit : (word : ℕ → ℕ) (from : ℕ) (bs : List ℕ) → ((k : ℕ) → get_or bs k 0 < 256) → (k : ℕ) → get_or (written_words word from bs) k 0 < 2 ^ 64
written_fit word from bs small k = elim (cases_lt k (count word from bs)) [
  | inl lt ↦ (let e : get_or (written_words word from bs) k 0 ≡ with_bytes word from bs (from / 8 + k) = written_get word from bs k lt in
      omega (arith, e, short_word (with_row (byte_at word) from (length bs) (λ j. get_or bs j 0)) (from / 8 + k) 8 (row_small word from bs small) (λ j low high. absurd (omega arith))))
  | inr le ↦ omega (arith, get_or_past (written_words word from bs) k 0 (omega (arith, written_long word from bs)))
]

-- words into which bytes are written leave the bytes past an object's end 0
pub written_padded : (word : ℕ → ℕ) (from : ℕ) (bs : List ℕ) (len i : ℕ) → ((k : ℕ) → get_or bs k 0 < 256) → from + length bs ≤ len → word i < 2 ^ (8 * (len - 8 * i)) →
    with_bytes word from bs i < 2 ^ (8 * (len - 8 * i))
written_padded word from bs len i small inside pad = short_word f i (len - 8 * i) (row_small word from bs small) (λ k lt le. elim (cases_lt (8 * i + k) len) [
  | inl below ↦ absurd (omega arith)
  | inr past ↦ row_out (byte_at word) from (length bs) (λ j. get_or bs j 0) (8 * i + k) (inr (omega arith)) ∙ none k lt le
]) where
  f : ℕ → ℕ
  f = with_row (byte_at word) from (length bs) (λ j. get_or bs j 0)

  none : (k : ℕ) → k < 8 → len - 8 * i ≤ k → byte_at word (8 * i + k) ≡ 0
  none k lt le =
      let at : (8 * i + k) / 8 ≡ i = omega arith in
      let place : (8 * i + k) % 8 ≡ k = omega arith in
      let more : 2 ^ (8 * (len - 8 * i)) ≤ 2 ^ (8 * k) = (let h : 8 * (len - 8 * i) ≤ 8 * k = omega arith in pow_mono h) in
      let zeros : word i / 2 ^ (8 * k) ≡ 0 = (let h : word i < 2 ^ (8 * k) = omega (arith, pad, more) in div-eq_of_lt h) in
      ap (λ j. word j / 2 ^ (8 * ((8 * i + k) % 8)) % 256) at ∙ ap (λ j. word i / 2 ^ (8 * j) % 256) place ∙ ap (λ x. x % 256) zeros

-- a byte of the words that bytes make is that byte
byte_back : (f : ℕ → ℕ) → ((q : ℕ) → f q < 256) → (q : ℕ) → byte_at (word_at f) q ≡ f q
byte_back f small q =
    ap (λ x. x / 2 ^ (8 * (q % 8)) % 256) (word_same f (λ k. get_or all k 0) (q / 8) (q / 8) (λ k lt. sym (at (8 * (q / 8) + k) (omega arith))))
    ∙ byte_of all small_all q ∙ at q (omega arith) where
      all : List ℕ
      all = map f (range_with_len 0 (8 * (q / 8) + 8))

      at : (k : ℕ) → k < 8 * (q / 8) + 8 → get_or all k 0 ≡ f k
      at k lt = get_or-map-range_with_len f 0 (8 * (q / 8) + 8) k k 0 lt (omega arith)

      small_all : (k : ℕ) → get_or all k 0 < 256
      small_all k = elim (cases_lt k (8 * (q / 8) + 8)) [
        | inl lt ↦ omega (arith, at k lt, small k)
        | inr le ↦ omega (arith, get_or_past all k 0 (omega (arith, length-map-range_with_len f 0 (8 * (q / 8) + 8))))
      ]

-- the bytes of words into which some are written
pub written_bytes : (word : ℕ → ℕ) (a from : ℕ) (bs : List ℕ) (len : ℕ) → ((k : ℕ) → get_or bs k 0 < 256) → from + length bs ≤ len →
    bytes_of (λ i. with_bytes word (8 * a + from) bs (a + i)) len ≡ spliced (bytes_of (λ i. word (a + i)) len) from bs
written_bytes word a from bs len small inside = ext_get_or 0 new (put_mid from (length bs) all bs) (long ∙ sym (written_len from (length bs) all bs fits refl ∙ size)) (λ k lt.
    bytes_of-get (λ i. with_bytes word (8 * a + from) bs (a + i)) len k (omega (arith, long)) ∙ sym (byte_behind (with_bytes word (8 * a + from) bs) a k)
    ∙ byte_back f (row_small word (8 * a + from) bs small) (8 * a + k) ∙ there k (omega (arith, long))) where
      all : List ℕ
      all = bytes_of (λ i. word (a + i)) len

      new : List ℕ
      new = bytes_of (λ i. with_bytes word (8 * a + from) bs (a + i)) len

      f : ℕ → ℕ
      f = with_row (byte_at word) (8 * a + from) (length bs) (λ j. get_or bs j 0)

      size : length all ≡ len
      size = length-bytes_of (λ i. word (a + i)) len

      long : length new ≡ len
      long = length-bytes_of (λ i. with_bytes word (8 * a + from) bs (a + i)) len

      fits : from + length bs ≤ length all
      fits = omega (arith, size, inside)

      old : (k : ℕ) → k < len → byte_at word (8 * a + k) ≡ get_or all k 0
      old k lt = byte_behind word a k ∙ sym (bytes_of-get (λ i. word (a + i)) len k lt)

      there : (k : ℕ) → k < len → f (8 * a + k) ≡ get_or (put_mid from (length bs) all bs) k 0
      there k lt = elim (cases_lt k from) [
        | inl low ↦ row_out (byte_at word) (8 * a + from) (length bs) (λ j. get_or bs j 0) (8 * a + k) (inl (omega arith)) ∙ old k lt ∙ sym (written_out all bs 0 from (length bs) k refl fits (inl low))
        | inr le ↦ elim (cases_lt k (from + length bs)) [
          | inl high ↦ (let same : 8 * a + k - (8 * a + from) ≡ k - from = omega arith in
              row_in (byte_at word) (8 * a + from) (length bs) (λ j. get_or bs j 0) (8 * a + k) (omega arith) (omega arith) ∙ ap (λ j. get_or bs j 0) same
              ∙ sym (written_in all bs 0 from (length bs) k refl fits le high))
          | inr past ↦ row_out (byte_at word) (8 * a + from) (length bs) (λ j. get_or bs j 0) (8 * a + k) (inr (omega arith)) ∙ old k lt ∙ sym (written_out all bs 0 from (length bs) k refl fits (inr past))
        ]
      ]
