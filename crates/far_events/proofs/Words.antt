-- Words as bytes.
use Rattle.std.proofs.Common.{◌≡◌, ℕ, zero, suc, ◌+◌, ◌-◌, ◌*◌, ◌/◌, ◌%◌, ◌^◌, ◌<◌, ◌≤◌, ◌⊎◌, ◌∙◌, arith, ap, sym, refl, inl, inr, List, ◌++◌, cond, length, take, drop, get_or}
use Rattle.std.specs.Prelude.{replicate, slice_range}
use Rattle.std.proofs.lemmas.Bool.{cases_lt, cases_eq, eq-eqb}
use Rattle.std.specs.Int.{bytes_low_first}
use Rattle.std.proofs.lemmas.List.{get_or_past, get_or-take, get_or-drop, get_or_append_left, get_or-append_right, length-append, length-replicate, length-take-le, length-drop, with_items_is, ext_get_or, take_at}
use Rattle.std.specs.Vec.{vec_len, with_items}
use Rattle.std.specs.declared.vec.Vec.{Vec}
use lib.Pow.{pow_mono}
use mathlib.Core.Path.{fun_ext}
use borrow.Rule.Slice.PartMut.{put_mid, mid_of}
use Rattle.far_word.specs.Bytes.{byte_at, bytes_of, packed_word, word_at, words_of, with_word}
use Rattle.far_word.proofs.WordBytes.{length-rest, write_whole}
use Rattle.far_word.proofs.ByteLaws.{packs_back, bytes_of-get, bytes_of-words_of, length-bytes_of, length-words_of, words_of-get, read_written, read_other, with_word-get, length-with_word}
use Rattle.far_events.specs.events.Ranges.{with_copy, with_row}
use Rattle.far_events.specs.events.namings.Evicts.{with_kept}
use Rattle.far_events.specs.state.Rows.{with_first}
use Rattle.far_events.specs.state.State.{put}
use Rattle.far_events.specs.declared.memory.words.Words.{Words}
use Rattle.far_events.specs.state.Words.{word_in}
use Rattle.far_events.proofs.Put.{put_same, put_other}
use Rattle.far_events.proofs.Rows.{row_in, row_out, row_is, row_last, row_none, row_same, row_written, written_in, written_out, written_len, zeros_written}
use Rattle.far_events.proofs.Begins.{row_of}
use Rattle.far_events.proofs.KeptRows.{beyond, within}

-- all bytes are below 256
abbrev pub Small : List ℕ → Type 0
Small bs = (k : ℕ) → get_or bs k 0 < 256

pub small_by : {xs ys zs : List ℕ} → xs ≡ zs → ys ≡ zs → Small ys → Small xs
small_by e f small k = omega (arith, ap (λ l. get_or l k 0) e, ap (λ l. get_or l k 0) f, small k)

-- a byte of the words that bytes make is that byte
pub byte_in : (bs : List ℕ) → Small bs → (q : ℕ) → q < length bs → byte_at (packed_word bs) q ≡ get_or bs q 0
byte_in bs small q lt =
    ap (λ x. x / 2 ^ (8 * (q % 8)) % 256) (sym (words_of-get bs (q / 8) (omega arith)))
    ∙ sym (bytes_of-get (λ i. get_or (words_of bs) i 0) (length bs) q lt) ∙ ap (λ l. get_or l q 0) (bytes_of-words_of bs small)

-- words of the same bytes
pub word_same : (f g : ℕ → ℕ) (i j : ℕ) → ((k : ℕ) → k < 8 → f (8 * i + k) ≡ g (8 * j + k)) → word_at f i ≡ word_at g j
word_same f g i j h = omega (arith, first, h 1 (omega arith), h 2 (omega arith), h 3 (omega arith), h 4 (omega arith), h 5 (omega arith), h 6 (omega arith), h 7 (omega arith)) where
  first : f (8 * i) ≡ g (8 * j)
  first = (let at : 8 * i ≡ 8 * i + 0 = omega arith in ap f at) ∙ h 0 (omega arith) ∙ (let at : 8 * j + 0 ≡ 8 * j = omega arith in ap g at)

-- one word is written over
pub word_put : (bs : List ℕ) (i w : ℕ) → w < 2 ^ 64 → 8 * i + 8 ≤ length bs → packed_word (with_word bs i w) ≡ put (packed_word bs) i w
word_put bs i w fits inside = fun_ext (λ q. elim (cases_eq q i) [
  | inl e ↦ ap (packed_word (with_word bs i w)) e ∙ word_same (λ k. get_or (with_word bs i w) k 0) (λ k. get_or (with_word zs i w) k 0) i i (λ k lt. new_byte bs k lt inside ∙ sym (new_byte zs k lt (omega (arith, long))))
      ∙ read_written zs i w (λ k. omega (arith, row_of zs (length bs) 0 refl k)) fits (omega (arith, fits, more)) ∙ sym (put_same (packed_word bs) i w q e)
  | inr ne ↦ read_other bs i w q ne ∙ sym (put_other (packed_word bs) i w q ne)
]) where
  zs : List ℕ
  zs = replicate (length bs) 0

  long : length zs ≡ length bs
  long = length-replicate {A = ℕ} (length bs) 0

  more : 2 ^ 64 ≤ 2 ^ (8 * (length zs - 8 * i))
  more = (let h : 64 ≤ 8 * (length zs - 8 * i) = omega (arith, long) in pow_mono h)

  new_byte : (xs : List ℕ) (k : ℕ) → k < 8 → 8 * i + 8 ≤ length xs → get_or (with_word xs i w) (8 * i + k) 0 ≡ w / 2 ^ (8 * ((8 * i + k) % 8)) % 256
  new_byte xs k lt room = with_word-get xs i w (8 * i + k) (omega arith) ∙ (let at : (8 * i + k) / 8 ≡ i = omega arith in
      ap (λ b. cond b (w / 2 ^ (8 * ((8 * i + k) % 8)) % 256) (get_or xs (8 * i + k) 0)) (eq-eqb ((8 * i + k) / 8) i at))

-- the same as it is written: into what a slice shows from the word on
pub word_set : (xs ys : List ℕ) (i w : ℕ) → w < 2 ^ 64 → 8 * i + 8 ≤ length xs → ys ≡ bytes_low_first 0 8 w ++ drop 8 (take (length xs - 8 * i) (drop (8 * i) xs)) →
    packed_word (put_mid (8 * i) (length xs - 8 * i) xs ys) ≡ put (packed_word xs) i w
word_set xs ys i w fits inside is = ap packed_word (write_whole xs ys i w (omega arith) (omega (arith, length-rest xs (8 * i))) is) ∙ word_put xs i w fits inside

-- bytes that are a row written over those from 8a on make a row of words
pub words_over : (f g row : ℕ → ℕ) (a n : ℕ) → g ≡ with_row f (8 * a) (8 * n) row → word_at g ≡ with_row (word_at f) a n (word_at row)
words_over f g row a n is = row_is (word_at f) (word_at g) a n (word_at row)
    (λ q low high. word_same g row q (q - a) (λ k lt. let at : 8 * q + k - 8 * a ≡ 8 * (q - a) + k = omega arith in
    ap (λ (h : ℕ → ℕ). h (8 * q + k)) is ∙ row_in f (8 * a) (8 * n) row (8 * q + k) (omega arith) (omega arith) ∙ ap row at))
    (λ q out. word_same g f q q (λ k lt. ap (λ (h : ℕ → ℕ). h (8 * q + k)) is ∙ row_out f (8 * a) (8 * n) row (8 * q + k) (beside q k lt out))) where
      beside : (q k : ℕ) → k < 8 → (q < a) ⊎ (a + n ≤ q) → (8 * q + k < 8 * a) ⊎ (8 * a + 8 * n ≤ 8 * q + k)
      beside q k lt (inl low) = inl (omega arith)
      beside q k lt (inr high) = inr (omega arith)

-- zeros behind bytes change no word
module _ (bs : List ℕ) (n : ℕ) where
  padded : (k : ℕ) → get_or (bs ++ replicate n 0) k 0 ≡ get_or bs k 0
  padded k = elim (cases_lt k (length bs)) [
    | inl lt ↦ get_or_append_left bs (replicate n 0) 0 k lt
    | inr le ↦ get_or-append_right bs (replicate n 0) (length bs) k 0 refl le ∙ row_of (replicate n 0) n 0 refl (k - length bs) ∙ sym (get_or_past bs k 0 le)
  ]

  padded_word : (i : ℕ) → packed_word bs i ≡ packed_word (bs ++ replicate n 0) i
  padded_word i = word_same (λ k. get_or bs k 0) (λ k. get_or (bs ++ replicate n 0) k 0) i i (λ k lt. sym (padded (8 * i + k)))

-- the same of a byte past the end, which is 0
pub byte_of : (bs : List ℕ) → Small bs → (q : ℕ) → byte_at (packed_word bs) q ≡ get_or bs q 0
byte_of bs small q =
    let more : List ℕ = bs ++ replicate (q + 1) 0 in
    ap (λ x. x / 2 ^ (8 * (q % 8)) % 256) (padded_word bs (q + 1) (q / 8))
    ∙ byte_in more (λ k. omega (arith, padded bs (q + 1) k, small k)) q (omega (arith, length-append bs (replicate (q + 1) 0), length-replicate {A = ℕ} (q + 1) 0))
    ∙ padded bs (q + 1) q

-- no word of zeros is other than 0
pub zero_word : (bs : List ℕ) → ((k : ℕ) → get_or bs k 0 ≡ 0) → packed_word bs ≡ (λ _. 0)
zero_word bs zeros = fun_ext (λ i. word_same (λ k. get_or bs k 0) (λ _. 0) i 0 (λ k lt. zeros (8 * i + k)))

-- a part of bytes has the words of all
pub part_word : (bs : List ℕ) (a k n i : ℕ) → k ≡ 8 * n → i < n → packed_word (take k (drop (8 * a) bs)) i ≡ packed_word bs (a + i)
part_word bs a k n i size lt = word_same (λ q. get_or (take k (drop (8 * a) bs)) q 0) (λ q. get_or bs q 0) i (a + i) (λ q below.
    let at : 8 * a + (8 * i + q) ≡ 8 * (a + i) + q = omega arith in
    get_or-take k (drop (8 * a) bs) (8 * i + q) 0 (omega arith) ∙ get_or-drop (8 * a) bs (8 * i + q) 0 ∙ ap (λ j. get_or bs j 0) at)

-- bytes that are read
pub bytes_read : (bs xs new : List ℕ) (from m n : ℕ) → xs ≡ bs → Small xs → m ≡ n → new ≡ take m (drop from xs) → (k : ℕ) → k < n → get_or new k 0 ≡ byte_at (packed_word bs) (from + k)
bytes_read bs xs new from m n same small size is k lt =
    ap (λ l. get_or l k 0) is ∙ get_or-take m (drop from xs) k 0 (omega arith) ∙ get_or-drop from xs k 0 ∙ sym (byte_of xs small (from + k))
    ∙ ap (λ l. byte_at (packed_word l) (from + k)) same

-- words that are read
pub words_read : (bs xs new : List ℕ) (a k n : ℕ) → xs ≡ bs → k ≡ 8 * n → 8 * (a + n) ≤ length xs → new ≡ words_of (take k (drop (8 * a) xs)) → (i : ℕ) → i < n → get_or new i 0 ≡ packed_word bs (a + i)
words_read bs xs new a k n same size inside is i lt =
    let long : length (take k (drop (8 * a) xs)) ≡ k = length-take-le k (drop (8 * a) xs) (omega (arith, length-drop (8 * a) xs)) in
    ap (λ l. get_or l i 0) is ∙ words_of-get (take k (drop (8 * a) xs)) i (omega (arith, long)) ∙ part_word xs a k n i size lt ∙ ap (λ l. packed_word l (a + i)) same

module _ {Z : Type 0} (v : Vec ℕ Z) (xs ys : List ℕ) (same : xs ≡ v.items) where
  -- one word written
  pub set_is : (i w : ℕ) → w < 2 ^ 64 → 8 * i + 8 ≤ length xs → ys ≡ bytes_low_first 0 8 w ++ drop 8 (take (length xs - 8 * i) (drop (8 * i) xs)) →
      packed_word (with_items v (put_mid (8 * i) (length xs - 8 * i) xs ys)).items ≡ put (packed_word v.items) i w
  set_is i w fits inside is =
      let written : put_mid (8 * i) (length xs - 8 * i) xs ys ≡ with_word xs i w = write_whole xs ys i w (omega arith) (omega (arith, length-rest xs (8 * i))) is in
      let long : length (put_mid (8 * i) (length xs - 8 * i) xs ys) ≡ v.len = ap length written ∙ length-with_word xs i w ∙ ap length same ∙ sym v.ok.0 in
      ap packed_word (with_items_is v (put_mid (8 * i) (length xs - 8 * i) xs ys) long) ∙ ap packed_word written ∙ word_put xs i w fits inside
      ∙ ap (λ l. put (packed_word l) i w) same

  -- words of bytes written
  pub put_is : (zs : List ℕ) (a k n : ℕ) → ys ≡ zs → k ≡ 8 * n → length zs ≡ 8 * n → 8 * (a + n) ≤ length v.items →
      packed_word (with_items v (put_mid (8 * a) k xs ys)).items ≡ with_row (packed_word v.items) a n (packed_word zs)
  put_is zs a k n is size long inside =
      words_over (λ q. get_or v.items q 0) (λ q. get_or (with_items v (put_mid (8 * a) k xs ys)).items q 0) (λ q. get_or zs q 0) a n
      (row_written v xs ys (8 * a) k same zs is (size ∙ sym long) (omega (arith, long)) ∙ ap (λ m. with_row (λ q. get_or v.items q 0) (8 * a) m (λ q. get_or zs q 0)) long)

  -- words written
  pub store_is : (ws : List ℕ) (a k n : ℕ) → ((i : ℕ) → get_or ws i 0 < 2 ^ 64) → ys ≡ bytes_of (λ i. get_or ws i 0) (length (take k (drop (8 * a) xs))) → k ≡ 8 * n → 8 * (a + n) ≤ length v.items →
      packed_word (with_items v (put_mid (8 * a) k xs ys)).items ≡ with_row (packed_word v.items) a n (λ i. get_or ws i 0)
  store_is ws a k n fits is size inside =
      let long : length (take k (drop (8 * a) xs)) ≡ 8 * n = length-take-le k (drop (8 * a) xs) (omega (arith, length-drop (8 * a) xs, ap length same)) ∙ size in
      let row : ℕ → ℕ = λ i. get_or ws i 0 in
      put_is (bytes_of row (8 * n)) a k n (is ∙ ap (bytes_of row) long) size (length-bytes_of row (8 * n)) inside
      ∙ row_same (packed_word v.items) a n (packed_word (bytes_of row (8 * n))) row (λ i lt. packs_back row (8 * n) i (fits i) (omega (arith, fits i, wide n i lt))) where
        wide : (n i : ℕ) → i < n → 2 ^ 64 ≤ 2 ^ (8 * (8 * n - 8 * i))
        wide n i lt = (let h : 64 ≤ 8 * (8 * n - 8 * i) = omega arith in pow_mono h)

  -- zeros written
  pub zero_is : (a k n : ℕ) → ys ≡ replicate (length (mid_of (8 * a) k xs)) 0 → k ≡ 8 * n → 8 * (a + n) ≤ length v.items →
      packed_word (with_items v (put_mid (8 * a) k xs ys)).items ≡ with_row (packed_word v.items) a n (λ _. 0)
  zero_is a k n is size inside =
      words_over (λ q. get_or v.items q 0) (λ q. get_or (with_items v (put_mid (8 * a) k xs ys)).items q 0) (λ _. 0) a n
      (zeros_written v xs ys (8 * a) k same (8 * n) is size (omega arith))

  -- bytes written, wherever they begin
  pub write_is : (zs : List ℕ) (from k : ℕ) → Small xs → ys ≡ zs → k ≡ length zs → from + length zs ≤ length v.items →
      packed_word (with_items v (put_mid from k xs ys)).items ≡ word_at (with_row (byte_at (packed_word v.items)) from (length zs) (λ i. get_or zs i 0))
  write_is zs from k small is size inside =
      ap word_at (row_written v xs ys from k same zs is size inside
      ∙ ap (λ f. with_row f from (length zs) (λ i. get_or zs i 0)) (fun_ext (λ q. ap (λ l. get_or l q 0) (sym same) ∙ sym (byte_of xs small q) ∙ ap (λ l. byte_at (packed_word l) q) same)))

-- the bytes of words in front of a row
pub front_read : (word : ℕ → ℕ) (new behind : List ℕ) (a n : ℕ) → length new ≡ 8 * n → ((k : ℕ) → k < 8 * n → get_or new k 0 ≡ byte_at word (8 * a + k)) →
    take (8 * n) (new ++ behind) ≡ bytes_of (λ k. word (a + k)) (8 * n)
front_read word new behind a n long is = take_at new behind (8 * n) long ∙ ext_get_or 0 new (bytes_of (λ k. word (a + k)) (8 * n))
    (long ∙ sym (length-bytes_of (λ k. word (a + k)) (8 * n)))
    (λ k lt. let below : k < 8 * n = omega (arith, long) in
    let at : (8 * a + k) / 8 ≡ a + k / 8 = omega arith in
    let place : (8 * a + k) % 8 ≡ k % 8 = omega arith in
    is k below ∙ ap (λ q. word q / 2 ^ (8 * ((8 * a + k) % 8)) % 256) at ∙ ap (λ q. word (a + k / 8) / 2 ^ (8 * q) % 256) place
    ∙ sym (bytes_of-get (λ k. word (a + k)) (8 * n) k below))

-- past the last all are 0
pub past_words : (words : Words) (a : ℕ) → vec_len words.bytes ≤ 8 * a → word_in words a ≡ 0
unfolding word_in
past_words words a le = word_same (λ k. get_or words.bytes.items k 0) (λ _. 0) a 0 (λ k lt. get_or_past words.bytes.items (8 * a + k) 0 (omega (arith, le, words.bytes.ok.0)))

-- the same with one word written
abbrev pub with_put : Words → ℕ → ℕ → Words
with_put words i w = record { bytes = with_items words.bytes (with_word words.bytes.items i w) }

pub put_there : (words : Words) (i w : ℕ) → w < 2 ^ 64 → 8 * i + 8 ≤ vec_len words.bytes → word_in (with_put words i w) ≡ put (word_in words) i w
unfolding word_in
put_there words i w fits inside = ap packed_word (with_items_is words.bytes (with_word words.bytes.items i w) (length-with_word words.bytes.items i w ∙ sym words.bytes.ok.0))
    ∙ word_put words.bytes.items i w fits (omega (arith, inside, words.bytes.ok.0))

-- ---- words copied over others that are apart from them
module _ (word : ℕ → ℕ) (a b m : ℕ) (apart : (a + m ≤ b) ⊎ (b + m ≤ a)) where
  source_out : (n : ℕ) → n < m → (a + n < b) ⊎ (b + n ≤ a + n)
  source_out n lt = elim apart [
    | inl low ↦ inl (omega (arith, low, lt))
    | inr high ↦ inr (omega (arith, high))
  ]

  pub copy_apart : (n : ℕ) → n ≤ m → with_copy word a b n ≡ with_row word b n (λ k. word (a + k))
  copy_apart zero le = row_none word b (λ k. word (a + k))
  copy_apart (suc n) le =
      let before : with_copy word a b n ≡ with_row word b n (λ k. word (a + k)) = copy_apart n (omega (arith, le)) in
      let got : with_row word b n (λ k. word (a + k)) (a + n) ≡ word (a + n) = row_out word b n (λ k. word (a + k)) (a + n) (source_out n (omega (arith, le))) in
      let more : n + 1 ≡ suc n = omega arith in
      (λ i. put (before i) (b + n) (before i (a + n))) ∙ row_last word b n (λ k. word (a + k)) (b + n) _ refl got ∙ ap (λ j. with_row word b j (λ k. word (a + k))) more

pub carried : {Z : Type 0} (v : Vec ℕ Z) (xs ys : List ℕ) → xs ≡ v.items → (a b n : ℕ) → (a + n ≤ b) ⊎ (b + n ≤ a) → length ys ≡ length xs →
    ◌≡◌ {A = ℕ → ℕ} (λ q. get_or ys q 0) (with_row (λ q. get_or xs q 0) (8 * b) (8 * n) (λ k. get_or xs (8 * a + k) 0)) →
    packed_word (with_items v ys).items ≡ with_copy (packed_word v.items) a b n
carried v xs ys same a b n apart long is =
    let fits : length ys ≡ v.len = long ∙ ap length same ∙ sym v.ok.0 in
    ap packed_word (with_items_is v ys fits)
    ∙ words_over (λ q. get_or xs q 0) (λ q. get_or ys q 0) (λ k. get_or xs (8 * a + k) 0) b n is
    ∙ row_same (packed_word xs) b n (word_at (λ k. get_or xs (8 * a + k) 0)) (λ k. packed_word xs (a + k))
    (λ k lt. word_same (λ q. get_or xs (8 * a + q) 0) (λ q. get_or xs q 0) k (a + k) (λ q below.
    let at : 8 * a + (8 * k + q) ≡ 8 * (a + k) + q = omega arith in ap (λ j. get_or xs j 0) at))
    ∙ sym (copy_apart (packed_word xs) a b n apart n (omega arith)) ∙ ap (λ l. with_copy (packed_word l) a b n) same

-- words copied one by one
pub copied_each : {Z : Type 0} (v : Vec ℕ Z) (xs ys : List ℕ) → xs ≡ v.items → (a b n : ℕ) → length ys ≡ length xs → packed_word ys ≡ with_copy (packed_word xs) a b n →
    packed_word (with_items v ys).items ≡ with_copy (packed_word v.items) a b n
copied_each v xs ys same a b n long is =
    ap packed_word (with_items_is v ys (long ∙ ap length same ∙ sym v.ok.0)) ∙ is ∙ ap (λ l. with_copy (packed_word l) a b n) same

module _ (xs fs bs cs : List ℕ) (source target size : ℕ) where
  -- a list in two parts: bytes of the second become some of the first
  pub behind_copied : (k : ℕ) → fs ≡ take target xs → bs ≡ drop target xs → k ≡ size → cs ≡ take k (drop source fs) → source + size ≤ target → target + size ≤ length xs →
      ◌≡◌ {A = ℕ → ℕ} (λ q. get_or (fs ++ (cs ++ drop size bs)) q 0) (with_row (λ q. get_or xs q 0) target size (λ k. get_or xs (source + k) 0))
  behind_copied k front behind same is apart inside =
      let front_long : length fs ≡ target = ap length front ∙ length-take-le target xs (omega arith) in
      let long : length cs ≡ size = ap length is ∙ length-take-le k (drop source fs) (omega (arith, length-drop source fs)) ∙ same in
      (λ i q. get_or (front i ++ (cs ++ drop size (behind i))) q 0)
      ∙ row_is (λ q. get_or xs q 0) (λ q. get_or (put_mid target size xs cs) q 0) target size (λ k. get_or xs (source + k) 0)
      (λ q low high. written_in xs cs 0 target size q (sym long) inside low (omega arith) ∙ ap (λ l. get_or l (q - target) 0) is
      ∙ get_or-take k (drop source fs) (q - target) 0 (omega arith) ∙ get_or-drop source fs (q - target) 0 ∙ ap (λ l. get_or l (source + (q - target)) 0) front
      ∙ get_or-take target xs (source + (q - target)) 0 (omega arith))
      (λ q out. written_out xs cs 0 target size q (sym long) inside (past long q out)) where
        past : length cs ≡ size → (q : ℕ) → (q < target) ⊎ (target + size ≤ q) → (q < target) ⊎ (target + length cs ≤ q)
        past e q (inl low) = inl low
        past e q (inr high) = inr (omega arith)

  -- bytes of the first become some of the second
  pub before_copied : (k : ℕ) → fs ≡ take source xs → bs ≡ drop source xs → k ≡ size → cs ≡ take size bs → target + size ≤ source → source + size ≤ length xs →
      ◌≡◌ {A = ℕ → ℕ} (λ q. get_or (put_mid target k fs cs ++ bs) q 0) (with_row (λ q. get_or xs q 0) target size (λ k. get_or xs (source + k) 0))
  before_copied k front behind same is apart inside =
      row_is (λ q. get_or xs q 0) (λ q. get_or (put_mid target k fs cs ++ bs) q 0) target size (λ k. get_or xs (source + k) 0)
      (λ q low high. get_or_append_left (put_mid target k fs cs) bs 0 q (omega (arith, whole)) ∙ written_in fs cs 0 target k q (same ∙ sym long) (omega (arith, front_long)) low (omega (arith, long))
      ∙ ap (λ l. get_or l (q - target) 0) is ∙ get_or-take size bs (q - target) 0 (omega arith) ∙ ap (λ l. get_or l (q - target) 0) behind ∙ get_or-drop source xs (q - target) 0)
      (λ q out. elim (cases_lt q source) [
        | inl lt ↦ get_or_append_left (put_mid target k fs cs) bs 0 q (omega (arith, whole)) ∙ written_out fs cs 0 target k q (same ∙ sym long) (omega (arith, front_long)) (past q out)
            ∙ ap (λ l. get_or l q 0) front ∙ get_or-take source xs q 0 lt
        | inr le ↦ (let at : source + (q - source) ≡ q = omega arith in
            get_or-append_right (put_mid target k fs cs) bs source q 0 whole le ∙ ap (λ l. get_or l (q - source) 0) behind ∙ get_or-drop source xs (q - source) 0 ∙ ap (λ j. get_or xs j 0) at)
      ]) where
        front_long : length fs ≡ source
        front_long = ap length front ∙ length-take-le source xs (omega arith)

        long : length cs ≡ size
        long = ap length is ∙ length-take-le size bs (omega (arith, ap length behind, length-drop source xs))

        whole : length (put_mid target k fs cs) ≡ source
        whole = written_len target k fs cs (omega (arith, front_long)) (long ∙ sym same) ∙ front_long

        past : (q : ℕ) → (q < target) ⊎ (target + size ≤ q) → (q < target) ⊎ (target + length cs ≤ q)
        past q (inl low) = inl low
        past q (inr high) = inr (omega (arith, long, high))

-- ---- what is noted of the bytes of words is what is kept of them
pub part_noted : (bytes : List ℕ) (stored : ℕ → ℕ → ℕ) (p a n : ℕ) (zs : List ℕ) → zs ≡ slice_range bytes (8 * a) (8 * (a + n)) → 8 * (a + n) ≤ length bytes →
    put stored p (with_first (length (words_of zs)) (λ i. get_or (words_of zs) i 0) (stored p)) ≡ put stored p (with_kept (packed_word bytes) stored p a n)
part_noted bytes stored p a n zs is fits = ap (put stored p)
    (ap (λ m. with_first m (λ i. get_or (words_of zs) i 0) (stored p)) long
    ∙ fun_ext (λ j. elim (cases_lt j n) [
      | inl lt ↦ within n _ _ j lt ∙ words_of-get zs j (omega (arith, size, lt)) ∙ ap (λ xs. packed_word xs j) is ∙ part_word bytes a (8 * (a + n) - 8 * a) n j (omega arith) lt
          ∙ sym (within n (packed_word bytes (a + j)) (stored p j) j lt)
      | inr le ↦ beyond n _ _ j le ∙ sym (beyond n (packed_word bytes (a + j)) (stored p j) j le)
    ])) where
      size : length zs ≡ 8 * n
      size = ap length is ∙ length-take-le (8 * (a + n) - 8 * a) (drop (8 * a) bytes) (omega (arith, length-drop (8 * a) bytes)) ∙ omega arith

      long : length (words_of zs) ≡ n
      long = length-words_of zs ∙ omega (arith, size)
