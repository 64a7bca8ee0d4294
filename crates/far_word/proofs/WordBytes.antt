-- The eight bytes of a word as they lie in a list, little end first.
use Rattle.std.proofs.Common.{◌≡◌, ◌≢◌, ℕ, suc, zero, ◌+◌, ◌-◌, ◌*◌, ◌/◌, ◌%◌, ◌<◌, ◌≤◌, ◌^◌, ◌++◌, cond, nat_eq, [], arith, sym, refl, ap, ◌∙◌, List, length, take, drop, get_or, shr-shr, inl, inr}
use Rattle.std.specs.Prelude.{replicate}
use Rattle.std.specs.Int.{bytes_low_first}
use Rattle.std.proofs.Math.Nat.{div-one}
use Rattle.std.proofs.lemmas.List.{get_or-replicate, get_or_past, get_or-take, get_or_append_left, get_or-append_right, get_or-drop, length-take-le, length-append, length-drop, drop_all, append-nil}
use Rattle.std.proofs.lemmas.List.FromFn.{fill_by_all}
use Rattle.std.proofs.lemmas.Bool.{cases_lt, eq-eqb, ne_eqb}
use borrow.Rule.Slice.PartMut.{put_mid}
use Rattle.byteorder.specs.Endian.{little_number}
use Rattle.byteorder.specs.Numbers.{length-bytes_low_first}
use Rattle.byteorder.proofs.Bytes.{pow256}
use Rattle.far_word.specs.Bytes.{byte_at, packed_word, with_word}
use Rattle.far_word.proofs.ByteLaws.{with_word-get, length-with_word}

place : (k x : ℕ) → Rattle.std.specs.Int.byte_at k x ≡ x / 256 ^ k % 256
place zero x = ap (λ (y : ℕ). y % 256) (sym (div-one x))
place (suc k) x = refl

-- one of the bytes that a number is written as
pub low_byte : (j n x k : ℕ) → k < n → get_or (bytes_low_first j n x) k 0 ≡ x / 2 ^ (8 * (j + k)) % 256
low_byte j zero x k h = absurd (omega arith)
low_byte j (suc n) x zero h = place j x ∙ ap (λ p. x / p % 256) (pow256 j) ∙ (let e : j ≡ j + 0 = omega arith in ap (λ q. x / 2 ^ (8 * q) % 256) e)
low_byte j (suc n) x (suc k) h = low_byte (suc j) n x k (omega arith) ∙ (let e : suc j + k ≡ j + suc k = omega arith in ap (λ q. x / 2 ^ (8 * q) % 256) e)

-- a number that is read of eight bytes is the word that they pack
pub read_word : (bs xs : List ℕ) (i : ℕ) → ((k : ℕ) → k < 8 → get_or xs k 0 ≡ get_or bs (8 * i + k) 0) → little_number 8 xs ≡ packed_word bs i
read_word bs xs i h =
    let same : 8 * i + 0 ≡ 8 * i = omega arith in
    let first : get_or xs 0 0 ≡ get_or bs (8 * i) 0 = h 0 (omega arith) ∙ ap (λ x. get_or bs x 0) same in
    omega (arith, first, h 1 (omega arith), h 2 (omega arith), h 3 (omega arith), h 4 (omega arith), h 5 (omega arith), h 6 (omega arith), h 7 (omega arith))

-- a list whose end is written over by the bytes of a word
module _ (bs ys : List ℕ) (i w : ℕ) (within : 8 * i < length bs) (long : length ys ≡ length bs - 8 * i)
    (word : (k : ℕ) → k < 8 → k < length ys → get_or ys k 0 ≡ w / 2 ^ (8 * k) % 256)
    (rest : (k : ℕ) → 8 ≤ k → k < length ys → get_or ys k 0 ≡ get_or bs (8 * i + k) 0) where
  over_byte : (k : ℕ) → k < length bs → get_or (take (8 * i) bs ++ ys) k 0 ≡ cond (nat_eq (k / 8) i) (w / 2 ^ (8 * (k % 8)) % 256) (get_or bs k 0)
  over_byte k lt =
      let front : length (take (8 * i) bs) ≡ 8 * i = length-take-le (8 * i) bs (omega arith) in
      elim (cases_lt k (8 * i)) [
        | inl below ↦ (let other : k / 8 ≢ i = (λ e. absurd (omega arith)) in
            get_or_append_left (take (8 * i) bs) ys 0 k (omega arith) ∙ get_or-take (8 * i) bs k 0 below ∙ ap (λ b. cond b (w / 2 ^ (8 * (k % 8)) % 256) (get_or bs k 0)) (sym (ne_eqb (k / 8) i other)))
        | inr above ↦ get_or-append_right (take (8 * i) bs) ys (8 * i) k 0 front above ∙ elim (cases_lt (k - 8 * i) 8) [
          | inl near ↦ (let same : k / 8 ≡ i = omega arith in let at : k - 8 * i ≡ k % 8 = omega arith in
              word (k - 8 * i) near (omega arith) ∙ ap (λ q. w / 2 ^ (8 * q) % 256) at ∙ ap (λ b. cond b (w / 2 ^ (8 * (k % 8)) % 256) (get_or bs k 0)) (sym (eq-eqb (k / 8) i same)))
          | inr far ↦ (let other : k / 8 ≢ i = (λ e. absurd (omega arith)) in let at : 8 * i + (k - 8 * i) ≡ k = omega arith in
              rest (k - 8 * i) far (omega arith) ∙ ap (λ q. get_or bs q 0) at ∙ ap (λ b. cond b (w / 2 ^ (8 * (k % 8)) % 256) (get_or bs k 0)) (sym (ne_eqb (k / 8) i other)))
        ]
      ]

  pub write_word : take (8 * i) bs ++ ys ≡ with_word bs i w
  unfolding with_word
  write_word = fill_by_all (λ k. cond (nat_eq (k / 8) i) (w / 2 ^ (8 * (k % 8)) % 256) (get_or bs k 0)) (take (8 * i) bs ++ ys) (length bs) 0
      (omega (arith, length-append (take (8 * i) bs) ys, length-take-le (8 * i) bs (omega arith))) over_byte

-- one more word unpacked
unpack_more : (f : ℕ → ℕ) (bs : List ℕ) (i k : ℕ) → ((q : ℕ) → q < 8 * i → q < length bs → get_or bs q 0 ≡ byte_at f q) → k < 8 * (i + 1) → k < length bs →
    get_or (with_word bs i (f i)) k 0 ≡ byte_at f k
unpack_more f bs i k before more lt = with_word-get bs i (f i) k lt ∙ elim (cases_lt k (8 * i)) [
  | inl below ↦ (let other : k / 8 ≢ i = (λ e. absurd (omega arith)) in
      ap (λ b. cond b (f i / 2 ^ (8 * (k % 8)) % 256) (get_or bs k 0)) (ne_eqb (k / 8) i other) ∙ before k below lt)
  | inr above ↦ (let same : k / 8 ≡ i = omega arith in
      ap (λ b. cond b (f i / 2 ^ (8 * (k % 8)) % 256) (get_or bs k 0)) (eq-eqb (k / 8) i same) ∙ ap (λ q. f q / 2 ^ (8 * (k % 8)) % 256) (sym same))
]

pub unpack_step : (f : ℕ → ℕ) (bs new : List ℕ) (i : ℕ) → new ≡ with_word bs i (f i) → ((q : ℕ) → q < 8 * i → q < length bs → get_or bs q 0 ≡ byte_at f q) →
    (k : ℕ) → k < 8 * (i + 1) → k < length new → get_or new k 0 ≡ byte_at f k
unpack_step f bs new i e before k more lt =
    ap (λ xs. get_or xs k 0) e ∙ unpack_more f bs i k before more (omega (arith, ap length e, length-with_word bs i (f i)))

-- ---- the end of a list, as code slices it
pub length-rest : (bs : List ℕ) (a : ℕ) → length (take (length bs - a) (drop a bs)) ≡ length bs - a
length-rest bs a = length-take-le (length bs - a) (drop a bs) (omega (arith, length-drop a bs))

rest-get : (bs : List ℕ) (a k : ℕ) → k < length bs - a → get_or (take (length bs - a) (drop a bs)) k 0 ≡ get_or bs (a + k) 0
rest-get bs a k lt = get_or-take (length bs - a) (drop a bs) k 0 lt ∙ get_or-drop a bs k 0

-- the eight bytes from there on, read as a number
pub read_whole : (bs : List ℕ) (i : ℕ) → 8 * i + 8 ≤ length bs → little_number 8 (take (length bs - 8 * i) (drop (8 * i) bs)) ≡ packed_word bs i
read_whole bs i fits = read_word bs (take (length bs - 8 * i) (drop (8 * i) bs)) i (λ k lt. rest-get bs (8 * i) k (omega arith))

put_end : (bs ys : List ℕ) (a : ℕ) → put_mid a (length bs - a) bs ys ≡ take a bs ++ ys
put_end bs ys a = ap (λ z. take a bs ++ (ys ++ z)) (drop_all (length bs - a) (drop a bs) (omega (arith, length-drop a bs))) ∙ ap (λ z. take a bs ++ z) (append-nil ys)

low_first : (w k : ℕ) (more : List ℕ) → k < 8 → get_or (bytes_low_first 0 8 w ++ more) k 0 ≡ w / 2 ^ (8 * k) % 256
low_first w k more lt =
    let e : 0 + k ≡ k = omega arith in
    get_or_append_left (bytes_low_first 0 8 w) more 0 k (omega (arith, length-bytes_low_first 0 8 w)) ∙ low_byte 0 8 w k lt ∙ ap (λ q. w / 2 ^ (8 * q) % 256) e

-- a whole word written at the end, what lies after it left as it was
pub write_whole : (bs buf : List ℕ) (i w : ℕ) → 8 * i < length bs → 8 ≤ length (take (length bs - 8 * i) (drop (8 * i) bs)) →
    buf ≡ bytes_low_first 0 8 w ++ drop 8 (take (length bs - 8 * i) (drop (8 * i) bs)) → put_mid (8 * i) (length bs - 8 * i) bs buf ≡ with_word bs i w
write_whole bs buf i w within room e =
    let left : List ℕ = take (length bs - 8 * i) (drop (8 * i) bs) in
    let long : length left ≡ length bs - 8 * i = length-rest bs (8 * i) in
    let eight : length (bytes_low_first 0 8 w) ≡ 8 = length-bytes_low_first 0 8 w in
    let whole : length buf ≡ length bs - 8 * i = omega (arith, ap length e, length-append (bytes_low_first 0 8 w) (drop 8 left), length-drop 8 left) in
    put_end bs buf (8 * i) ∙ write_word bs buf i w within whole
    (λ k lt _. ap (λ xs. get_or xs k 0) e ∙ low_first w k (drop 8 left) lt)
    (λ k le lt. let at : 8 + (k - 8) ≡ k = omega arith in
    ap (λ xs. get_or xs k 0) e ∙ get_or-append_right (bytes_low_first 0 8 w) (drop 8 left) 8 k 0 eight le ∙ get_or-drop 8 left (k - 8) 0
    ∙ ap (λ q. get_or left q 0) at ∙ rest-get bs (8 * i) k (omega arith))

-- the first bytes of a word written at the end
pub write_part : (bs buf ys : List ℕ) (i w n : ℕ) → 8 * i < length bs → n < 8 → n ≡ length (take (length bs - 8 * i) (drop (8 * i) bs)) →
    buf ≡ bytes_low_first 0 8 w ++ [] → ys ≡ take n buf → put_mid (8 * i) (length bs - 8 * i) bs ys ≡ with_word bs i w
write_part bs buf ys i w n within short len e f =
    let long : n ≡ length bs - 8 * i = len ∙ length-rest bs (8 * i) in
    let eight : length buf ≡ 8 = ap length e ∙ length-bytes_low_first 0 8 w in
    let some : length ys ≡ n = ap length f ∙ length-take-le n buf (omega arith) in
    put_end bs ys (8 * i) ∙ write_word bs ys i w within (some ∙ long)
    (λ k lt below. ap (λ xs. get_or xs k 0) f ∙ get_or-take n buf k 0 (omega arith) ∙ ap (λ xs. get_or xs k 0) e ∙ low_first w k [] lt)
    (λ k le lt. absurd (omega arith))

-- ---- a buffer of zeros that begins with the end of a list
zeros_after : (new : List ℕ) (n k : ℕ) → length new ≡ n → n ≤ k → k < 8 → get_or (new ++ drop n (replicate 8 0)) k 0 ≡ 0
zeros_after new n k long le lt =
    let at : n + (k - n) ≡ k = omega arith in
    get_or-append_right new (drop n (replicate 8 0)) n k 0 long le ∙ get_or-drop n (replicate 8 0) (k - n) 0 ∙ ap (λ q. get_or (replicate 8 0) q 0) at ∙ get_or-replicate 8 k 0 0 lt

-- read as a number it is the word of a list that is shorter than a word
pub read_short : (bs new : List ℕ) (i r : ℕ) → length bs < 8 → 8 * i < length bs → new ≡ bs →
    r ≡ little_number 8 (new ++ drop (length bs) (replicate 8 0)) → r ≡ packed_word bs i
read_short bs new i r short some e read =
    let long : length new ≡ length bs = ap length e in
    let at : (k : ℕ) → k ≡ 8 * i + k = (λ k. omega arith) in
    read ∙ read_word bs (new ++ drop (length bs) (replicate 8 0)) i (λ k lt. elim (cases_lt k (length bs)) [
      | inl below ↦ (get_or_append_left new (drop (length bs) (replicate 8 0)) 0 k (omega arith) ∙ ap (λ xs. get_or xs k 0) e ∙ ap (λ q. get_or bs q 0) (at k))
      | inr above ↦ (zeros_after new (length bs) k long above lt ∙ sym (get_or_past bs (8 * i + k) 0 (omega arith)))
    ])

-- ---- the eight bytes that end a list, those before its last word shifted out
abbrev eight : (ℕ → ℕ) → ℕ
eight f = f 0 + f 1 * 2 ^ 8 + f 2 * 2 ^ 16 + f 3 * 2 ^ 24 + f 4 * 2 ^ 32 + f 5 * 2 ^ 40 + f 6 * 2 ^ 48 + f 7 * 2 ^ 56

one_out : (f : ℕ → ℕ) → f 0 < 256 → f 8 ≡ 0 → eight f / 2 ^ 8 ≡ eight (λ k. f (suc k))
one_out f low none = omega (arith, low, none)

shifted_out : (d : ℕ) (f : ℕ → ℕ) → ((k : ℕ) → f k < 256) → ((k : ℕ) → 8 ≤ k → f k ≡ 0) → eight f / 2 ^ (8 * d) ≡ eight (λ k. f (k + d))
shifted_out zero f low none = div-one (eight f) ∙ (let at : (k : ℕ) → k ≡ k + 0 = (λ k. omega arith) in
    omega (arith, ap f (at 0), ap f (at 1), ap f (at 2), ap f (at 3), ap f (at 4), ap f (at 5), ap f (at 6), ap f (at 7)))
shifted_out (suc d) f low none =
    let longer : 8 * suc d ≡ 8 + 8 * d = omega arith in
    let at : (k : ℕ) → suc (k + d) ≡ k + suc d = (λ k. omega arith) in
    ap (λ q. eight f / 2 ^ q) longer ∙ sym (shr-shr (eight f) 8 (8 * d)) ∙ ap (λ x. x / 2 ^ (8 * d)) (one_out f (low 0) (none 8 (omega arith)))
    ∙ shifted_out d (λ k. f (suc k)) (λ k. low (suc k)) (λ k le. none (suc k) (omega arith))
    ∙ omega (arith, ap f (at 0), ap f (at 1), ap f (at 2), ap f (at 3), ap f (at 4), ap f (at 5), ap f (at 6), ap f (at 7))

-- the last eight bytes read as a number, shifted, are the word of the bytes that are left
pub read_shifted : (bs : List ℕ) (i r : ℕ) → ((k : ℕ) → get_or bs k 0 < 256) → 8 ≤ length bs → length bs < 8 * i + 8 → 8 * i < length bs →
    r ≡ little_number 8 (take (length bs - (length bs - 8)) (drop (length bs - 8) bs)) → r / 2 ^ (8 * (8 * i + 8 - length bs)) ≡ packed_word bs i
read_shifted bs i r low long few some read =
    let f : ℕ → ℕ = (λ k. get_or (drop (length bs - 8) bs) k 0) in
    let is : (k : ℕ) → f k ≡ get_or bs (length bs - 8 + k) 0 = (λ k. get_or-drop (length bs - 8) bs k 0) in
    let d : ℕ = 8 * i + 8 - length bs in
    let moved : (k : ℕ) → f (k + d) ≡ get_or bs (8 * i + k) 0 = (λ k. is (k + d) ∙ ap (λ q. get_or bs q 0) (omega arith)) in
    let end : List ℕ = take (length bs - (length bs - 8)) (drop (length bs - 8) bs) in
    let same : (k : ℕ) → k < 8 → get_or end k 0 ≡ f k = (λ k lt. rest-get bs (length bs - 8) k (omega arith) ∙ sym (is k)) in
    let whole : r ≡ eight f = read ∙ omega (arith, same 0, same 1, same 2, same 3, same 4, same 5, same 6, same 7) in
    ap (λ x. x / 2 ^ (8 * d)) whole ∙ shifted_out d f (λ k. omega (arith, is k, low (length bs - 8 + k))) (λ k le. is k ∙ get_or_past bs (length bs - 8 + k) 0 (omega arith))
    ∙ omega (arith, moved 0 ∙ (let same : 8 * i + 0 ≡ 8 * i = omega arith in ap (λ q. get_or bs q 0) same), moved 1, moved 2, moved 3, moved 4, moved 5, moved 6, moved 7)
