-- Bytes in words: the bytes of equal words, of zeros, of a row with one word written, and the words of bytes.
use Rattle.std.proofs.Common.{◌≡◌, ℕ, zero, suc, ◌+◌, ◌-◌, ◌*◌, ◌/◌, ◌%◌, ◌<◌, ◌≤◌, ◌^◌, Bool, true, false, cond, nat_eq, arith, sym, refl, ap, ◌∙◌, List, length, get_or, map, inl, inr}
use Rattle.std.specs.Prelude.{replicate, ◌==◌, ◌≢◌}
use Rattle.std.specs.List.{range_with_len}
use Rattle.std.proofs.lemmas.List.FromFn.{length-map-range_with_len, get_or-map-range_with_len}
use Rattle.std.proofs.lemmas.List.{ext_get_or, length-replicate, get_or-replicate, get_or_past}
use Rattle.std.proofs.lemmas.Bool.{cases_lt, eq-eqb, ne_eqb}
use native.Mathlib.Nat.{zero-div, div-eq_of_lt}
use lib.Pow.{pow_mono}
use Rattle.far_word.specs.Bytes.{byte_at, bytes_of, packed_word, words_of, with_word}
use Rattle.far_word.specs.Sizes.{words_for}
use Rattle.far_word.proofs.Words.{split_at}

-- ---- lists that a function of the index gives
pub map-range_with_len-same : (f g : ℕ → ℕ) (n : ℕ) → ((k : ℕ) → k < n → f k ≡ g k) → map f (range_with_len 0 n) ≡ map g (range_with_len 0 n)
map-range_with_len-same f g n h = ext_get_or 0 _ _ (length-map-range_with_len f 0 n ∙ sym (length-map-range_with_len g 0 n))
    (λ k lt. let below : k < n = omega (arith, length-map-range_with_len f 0 n) in
    get_or-map-range_with_len f 0 n k k 0 below (omega arith) ∙ h k below ∙ sym (get_or-map-range_with_len g 0 n k k 0 below (omega arith)))

-- ---- the bytes of a row of words
pub length-bytes_of : (f : ℕ → ℕ) (n : ℕ) → length (bytes_of f n) ≡ n
unfolding bytes_of
length-bytes_of f n = length-map-range_with_len (byte_at f) 0 n

-- one byte of them
pub bytes_of-get : (f : ℕ → ℕ) (n k : ℕ) → k < n → get_or (bytes_of f n) k 0 ≡ byte_at f k
unfolding bytes_of
bytes_of-get f n k lt = get_or-map-range_with_len (byte_at f) 0 n k k 0 lt (omega arith)

-- each is below 256
pub bytes_of-small : (f : ℕ → ℕ) (n k : ℕ) → get_or (bytes_of f n) k 0 < 256
bytes_of-small f n k = elim (cases_lt k n) [
  | inl lt ↦ omega (arith, bytes_of-get f n k lt)
  | inr le ↦ omega (arith, get_or_past (bytes_of f n) k 0 (omega (arith, length-bytes_of f n)))
]

-- equal words have equal bytes
pub bytes_of-same : (f g : ℕ → ℕ) (n : ℕ) → ((i : ℕ) → i < words_for n → f i ≡ g i) → bytes_of f n ≡ bytes_of g n
unfolding bytes_of
bytes_of-same f g n h = map-range_with_len-same (byte_at f) (byte_at g) n (λ k lt. ap (λ x. x / 2 ^ (8 * (k % 8)) % 256) (h (k / 8) (omega arith)))

zero_byte : (n : ℕ) → 0 / n % 256 ≡ 0
zero_byte n = rw (zero-div n) refl

-- zero words have zero bytes
pub bytes_of-zeros : (f : ℕ → ℕ) (n : ℕ) → ((i : ℕ) → i < words_for n → f i ≡ 0) → bytes_of f n ≡ replicate n 0
bytes_of-zeros f n h = ext_get_or 0 _ _ (length-bytes_of f n ∙ sym (length-replicate n 0))
    (λ k lt. let below : k < n = omega (arith, length-bytes_of f n) in
    bytes_of-get f n k below ∙ ap (λ x. x / 2 ^ (8 * (k % 8)) % 256) (h (k / 8) (omega arith)) ∙ zero_byte (2 ^ (8 * (k % 8))) ∙ sym (get_or-replicate n k 0 0 below))

-- a word that is written writes its bytes over
put_byte : (f : ℕ → ℕ) (n i w k : ℕ) (b : Bool) → k < n →
    cond b w (f (k / 8)) / 2 ^ (8 * (k % 8)) % 256 ≡ cond b (w / 2 ^ (8 * (k % 8)) % 256) (get_or (bytes_of f n) k 0)
put_byte f n i w k true lt = refl
put_byte f n i w k false lt = sym (bytes_of-get f n k lt)

pub bytes_of-put : (f : ℕ → ℕ) (n i w : ℕ) → bytes_of (λ q. cond (q == i) w (f q)) n ≡ with_word (bytes_of f n) i w
unfolding bytes_of with_word
bytes_of-put f n i w =
    let new : ℕ → ℕ = λ k. cond (nat_eq (k / 8) i) (w / 2 ^ (8 * (k % 8)) % 256) (get_or (bytes_of f n) k 0) in
    map-range_with_len-same (byte_at (λ q. cond (nat_eq q i) w (f q))) new n (λ k lt. put_byte f n i w k (nat_eq (k / 8) i) lt)
    ∙ ap (λ m. map new (range_with_len 0 m)) (sym (length-bytes_of f n))

-- ---- the bytes of words, packed again
byte_is : (f : ℕ → ℕ) (n i k : ℕ) → k < 8 → f i < 2 ^ (8 * (n - 8 * i)) → get_or (bytes_of f n) (8 * i + k) 0 ≡ f i / 2 ^ (8 * k) % 256
byte_is f n i k small pad = elim (cases_lt (8 * i + k) n) [
  | inl lt ↦ (let q : (8 * i + k) / 8 ≡ i = omega arith in let r : (8 * i + k) % 8 ≡ k = omega arith in
      bytes_of-get f n (8 * i + k) lt ∙ ap (λ x. f x / 2 ^ (8 * ((8 * i + k) % 8)) % 256) q ∙ ap (λ x. f i / 2 ^ (8 * x) % 256) r)
  | inr le ↦ (let more : 2 ^ (8 * (n - 8 * i)) ≤ 2 ^ (8 * k) = (let h : 8 * (n - 8 * i) ≤ 8 * k = omega arith in pow_mono h) in
      let none : f i / 2 ^ (8 * k) ≡ 0 = (let h : f i < 2 ^ (8 * k) = omega arith in div-eq_of_lt h) in
      get_or_past (bytes_of f n) (8 * i + k) 0 (omega (arith, length-bytes_of f n)) ∙ sym (ap (λ x. x % 256) none))
]

eight : (w : ℕ) → w < 2 ^ 64 → w ≡ w / 2 ^ (8 * 0) % 256 + w / 2 ^ (8 * 1) % 256 * 2 ^ 8 + w / 2 ^ (8 * 2) % 256 * 2 ^ 16 + w / 2 ^ (8 * 3) % 256 * 2 ^ 24
    + w / 2 ^ (8 * 4) % 256 * 2 ^ 32 + w / 2 ^ (8 * 5) % 256 * 2 ^ 40 + w / 2 ^ (8 * 6) % 256 * 2 ^ 48 + w / 2 ^ (8 * 7) % 256 * 2 ^ 56
eight w fits = omega (arith, split_at w 0 8, split_at w 8 8, split_at w 16 8, split_at w 24 8, split_at w 32 8, split_at w 40 8, split_at w 48 8)

-- a word whose bytes past the end are zero
pub packs_back : (f : ℕ → ℕ) (n i : ℕ) → f i < 2 ^ 64 → f i < 2 ^ (8 * (n - 8 * i)) → packed_word (bytes_of f n) i ≡ f i
packs_back f n i fits pad =
    let same : 8 * i ≡ 8 * i + 0 = omega arith in
    let first : get_or (bytes_of f n) (8 * i) 0 ≡ f i / 2 ^ (8 * 0) % 256 = ap (λ x. get_or (bytes_of f n) x 0) same ∙ byte_is f n i 0 (omega arith) pad in
    sym (eight (f i) fits ∙ sym (
    omega (
      arith,
      first,
      byte_is f n i 1 (omega arith) pad,
      byte_is f n i 2 (omega arith) pad,
      byte_is f n i 3 (omega arith) pad,
      byte_is f n i 4 (omega arith) pad,
      byte_is f n i 5 (omega arith) pad,
      byte_is f n i 6 (omega arith) pad,
      byte_is f n i 7 (omega arith) pad,
    )))

-- ---- the words of bytes, unpacked again
pub length-words_of : (bs : List ℕ) → length (words_of bs) ≡ words_for (length bs)
unfolding words_of
length-words_of bs = length-map-range_with_len (packed_word bs) 0 (words_for (length bs))

pub words_of-get : (bs : List ℕ) (i : ℕ) → i < words_for (length bs) → get_or (words_of bs) i 0 ≡ packed_word bs i
unfolding words_of
words_of-get bs i lt = get_or-map-range_with_len (packed_word bs) 0 (words_for (length bs)) i i 0 lt (omega arith)

-- the words of the bytes of words are those words
pub words_of-bytes_of : (f : ℕ → ℕ) (n i : ℕ) → i < words_for n → f i < 2 ^ 64 → f i < 2 ^ (8 * (n - 8 * i)) → get_or (words_of (bytes_of f n)) i 0 ≡ f i
words_of-bytes_of f n i lt fits pad =
    let below : i < words_for (length (bytes_of f n)) = omega (arith, length-bytes_of f n) in
    words_of-get (bytes_of f n) i below ∙ packs_back f n i fits pad

-- byte k of the eight that make a word
byte_back : (b : ℕ → ℕ) (k : ℕ) → ((q : ℕ) → b q < 256) → k < 8 →
    (b 0 + b 1 * 2 ^ 8 + b 2 * 2 ^ 16 + b 3 * 2 ^ 24 + b 4 * 2 ^ 32 + b 5 * 2 ^ 40 + b 6 * 2 ^ 48 + b 7 * 2 ^ 56) / 2 ^ (8 * k) % 256 ≡ b k
byte_back b zero small lt = omega (arith, small 0, small 1, small 2, small 3, small 4, small 5, small 6, small 7)
byte_back b (suc zero) small lt = omega (arith, small 0, small 1, small 2, small 3, small 4, small 5, small 6, small 7)
byte_back b (suc (suc zero)) small lt = omega (arith, small 0, small 1, small 2, small 3, small 4, small 5, small 6, small 7)
byte_back b (suc (suc (suc zero))) small lt = omega (arith, small 0, small 1, small 2, small 3, small 4, small 5, small 6, small 7)
byte_back b (suc (suc (suc (suc zero)))) small lt = omega (arith, small 0, small 1, small 2, small 3, small 4, small 5, small 6, small 7)
byte_back b (suc (suc (suc (suc (suc zero))))) small lt = omega (arith, small 0, small 1, small 2, small 3, small 4, small 5, small 6, small 7)
byte_back b (suc (suc (suc (suc (suc (suc zero)))))) small lt = omega (arith, small 0, small 1, small 2, small 3, small 4, small 5, small 6, small 7)
byte_back b (suc (suc (suc (suc (suc (suc (suc zero))))))) small lt = omega (arith, small 0, small 1, small 2, small 3, small 4, small 5, small 6, small 7)
byte_back b (suc (suc (suc (suc (suc (suc (suc (suc k)))))))) small lt = absurd (omega arith)

packed_byte : (bs : List ℕ) (i k : ℕ) → ((q : ℕ) → get_or bs q 0 < 256) → k < 8 → packed_word bs i / 2 ^ (8 * k) % 256 ≡ get_or bs (8 * i + k) 0
packed_byte bs i k small lt =
    let same : 8 * i + 0 ≡ 8 * i = omega arith in
    ap (λ q. (get_or bs q 0 + get_or bs (8 * i + 1) 0 * 2 ^ 8 + get_or bs (8 * i + 2) 0 * 2 ^ 16 + get_or bs (8 * i + 3) 0 * 2 ^ 24
    + get_or bs (8 * i + 4) 0 * 2 ^ 32 + get_or bs (8 * i + 5) 0 * 2 ^ 40 + get_or bs (8 * i + 6) 0 * 2 ^ 48 + get_or bs (8 * i + 7) 0 * 2 ^ 56) / 2 ^ (8 * k) % 256) (sym same)
    ∙ byte_back (λ q. get_or bs (8 * i + q) 0) k (λ q. small (8 * i + q)) lt

-- the bytes of the words of bytes are those bytes
pub bytes_of-words_of : (bs : List ℕ) → ((k : ℕ) → get_or bs k 0 < 256) → bytes_of (λ i. get_or (words_of bs) i 0) (length bs) ≡ bs
bytes_of-words_of bs small = ext_get_or 0 _ _ (length-bytes_of (λ i. get_or (words_of bs) i 0) (length bs))
    (λ k lt. let below : k < length bs = omega (arith, length-bytes_of (λ i. get_or (words_of bs) i 0) (length bs)) in
    let at : 8 * (k / 8) + k % 8 ≡ k = omega arith in
    bytes_of-get (λ i. get_or (words_of bs) i 0) (length bs) k below ∙ ap (λ x. x / 2 ^ (8 * (k % 8)) % 256) (words_of-get bs (k / 8) (omega arith))
    ∙ packed_byte bs (k / 8) (k % 8) small (omega arith) ∙ ap (λ q. get_or bs q 0) at)

-- ---- bytes written over, read again
pub length-with_word : (bs : List ℕ) (i w : ℕ) → length (with_word bs i w) ≡ length bs
unfolding with_word
length-with_word bs i w = length-map-range_with_len _ 0 (length bs)

-- one byte of them
pub with_word-get : (bs : List ℕ) (i w k : ℕ) → k < length bs → get_or (with_word bs i w) k 0 ≡ cond (nat_eq (k / 8) i) (w / 2 ^ (8 * (k % 8)) % 256) (get_or bs k 0)
unfolding with_word
with_word-get bs i w k lt = get_or-map-range_with_len (λ q. cond (nat_eq (q / 8) i) (w / 2 ^ (8 * (q % 8)) % 256) (get_or bs q 0)) 0 (length bs) k k 0 lt (omega arith)

with_word-other : (bs : List ℕ) (i w k : ℕ) → (k / 8 ≢ i) → get_or (with_word bs i w) k 0 ≡ get_or bs k 0
with_word-other bs i w k ne = elim (cases_lt k (length bs)) [
  | inl lt ↦ with_word-get bs i w k lt ∙ ap (λ b. cond b (w / 2 ^ (8 * (k % 8)) % 256) (get_or bs k 0)) (ne_eqb (k / 8) i ne)
  | inr le ↦ get_or_past (with_word bs i w) k 0 (omega (arith, length-with_word bs i w)) ∙ sym (get_or_past bs k 0 le)
]

-- each is below 256
new_byte : (b : Bool) (w n x : ℕ) → x < 256 → cond b (w / n % 256) x < 256
new_byte true w n x small = omega arith
new_byte false w n x small = small

pub with_word-small : (bs : List ℕ) (i w : ℕ) → ((k : ℕ) → get_or bs k 0 < 256) → (k : ℕ) → get_or (with_word bs i w) k 0 < 256
with_word-small bs i w small k = elim (cases_lt k (length bs)) [
  | inl lt ↦ omega (arith, with_word-get bs i w k lt, new_byte (nat_eq (k / 8) i) w (2 ^ (8 * (k % 8))) (get_or bs k 0) (small k))
  | inr le ↦ omega (arith, get_or_past (with_word bs i w) k 0 (omega (arith, length-with_word bs i w)))
]

-- the bytes as the bytes of their words, with one word put
with_word-as : (bs : List ℕ) (i w : ℕ) → ((k : ℕ) → get_or bs k 0 < 256) → with_word bs i w ≡ bytes_of (λ q. cond (q == i) w (get_or (words_of bs) q 0)) (length bs)
with_word-as bs i w small = sym (bytes_of-put (λ q. get_or (words_of bs) q 0) (length bs) i w ∙ ap (λ b. with_word b i w) (bytes_of-words_of bs small))

pub read_written : (bs : List ℕ) (i w : ℕ) → ((k : ℕ) → get_or bs k 0 < 256) → w < 2 ^ 64 → w < 2 ^ (8 * (length bs - 8 * i)) → packed_word (with_word bs i w) i ≡ w
read_written bs i w small fits pad =
    let f : ℕ → ℕ = λ q. cond (nat_eq q i) w (get_or (words_of bs) q 0) in
    let at : f i ≡ w = ap (λ b. cond b w (get_or (words_of bs) i 0)) (eq-eqb i i refl) in
    ap (λ b. packed_word b i) (with_word-as bs i w small) ∙ packs_back f (length bs) i (omega (arith, at)) (omega (arith, at)) ∙ at

pub read_other : (bs : List ℕ) (i w j : ℕ) → j ≢ i → packed_word (with_word bs i w) j ≡ packed_word bs j
read_other bs i w j ne =
    rw (
      with_word-other bs i w (8 * j) (λ e. ne (omega arith)),
      with_word-other bs i w (8 * j + 1) (λ e. ne (omega arith)),
      with_word-other bs i w (8 * j + 2) (λ e. ne (omega arith)),
      with_word-other bs i w (8 * j + 3) (λ e. ne (omega arith)),
      with_word-other bs i w (8 * j + 4) (λ e. ne (omega arith)),
      with_word-other bs i w (8 * j + 5) (λ e. ne (omega arith)),
      with_word-other bs i w (8 * j + 6) (λ e. ne (omega arith)),
      with_word-other bs i w (8 * j + 7) (λ e. ne (omega arith)),
    ) refl
