-- Bytes that lie in words: parts of one word, whole words, and a range of them in three parts.
use Rattle.std.proofs.Common.{◌≡◌, ℕ, ◌+◌, ◌-◌, ◌*◌, ◌/◌, ◌%◌, ◌^◌, ◌<◌, ◌≤◌, arith, ap, sym, subst, ◌∙◌, List, ◌++◌, length, get_or, take, drop, inl, inr}
use Rattle.std.specs.Int.{bytes_low_first}
use Rattle.std.proofs.lemmas.Bool.{cases_lt}
use Rattle.std.proofs.lemmas.List.{get_or_past, get_or-take, get_or-drop, length-take-le, length-append, length-drop}
use lib.Pow.{field, pow_mono}
use Rattle.std.proofs.lemmas.Nat.{pow_pos, shl-shr}
use Rattle.std.proofs.Math.Nat.{div-eq_of_lt, mod-lt}
use Rattle.std.proofs.Math.Pow.{mod-mod-pow}
use borrow.Rule.Slice.PartMut.{put_mid}
use Rattle.byteorder.specs.Endian.{little_number}
use Rattle.byteorder.specs.Numbers.{length-bytes_low_first}
use Rattle.far_word.specs.Bytes.{byte_at, packed_word}
use Rattle.far_word.proofs.WordBytes.{read_word}
use Rattle.far_table.specs.View.{OwnerView}
use Rattle.far_table.specs.Views.{len_of, object_at}
use Rattle.far_table.specs.Ranges.{HasBytes, Wrote}
use Rattle.far_table.proofs.WholeWords.{in_row, packed_bytes, put_above, put_below, put_inside, put_long, word_byte, wrote_join}
use Rattle.far_book.proofs.region.Packing.{part_wide}

-- a part of the bytes of one word is that part of the row
pub part_read : (f : ℕ → ℕ) (w from at m : ℕ) (buf rest out : List ℕ) → at ≡ from % 8 → at + length out ≤ 8 → buf ≡ bytes_low_first 0 8 w ++ rest → out ≡ take m (drop at buf) →
    m ≡ length out → w ≡ f (from / 8) → HasBytes f from out
part_read f w from at m buf rest out is few word part long found k lt =
    let here : (from + k) / 8 ≡ from / 8 = omega arith in
    let there : at + k ≡ (from + k) % 8 = omega arith in
    ap (λ xs. get_or xs k 0) part ∙ get_or-take m (drop at buf) k 0 (omega arith) ∙ get_or-drop at buf k 0 ∙ word_byte w (at + k) buf rest word (omega arith)
    ∙ ap (byte_at (λ _. w)) there ∙ in_row f w (from / 8) (from + k) found here

-- ---- a word with some bytes replaced
-- the low bytes of a word, where those above are shifted out
low_word : (word room past : ℕ) → past ≡ 64 - 8 * room → room ≤ 8 → word * 2 ^ past % 2 ^ 64 / 2 ^ past ≡ word % 2 ^ (8 * room)
low_word word room past cut most =
    let all : 8 * room + past ≡ 64 = omega arith in
    ap (λ n. word * 2 ^ past % 2 ^ n / 2 ^ past) (sym all) ∙ field (word * 2 ^ past) (8 * room) past ∙ ap (λ x. x % 2 ^ (8 * room)) (shl-shr word past)

low_byte_stays : (word room k : ℕ) → k < room → word % 2 ^ (8 * room) / 2 ^ (8 * k) % 256 ≡ word / 2 ^ (8 * k) % 256
low_byte_stays word room k lt =
    let more : ℕ = 8 * (room - k) - 8 in
    let all : (more + 8) + 8 * k ≡ 8 * room = omega arith in
    ap (λ n. word % 2 ^ n / 2 ^ (8 * k) % 256) (sym all) ∙ ap (λ x. x % 256) (field word (more + 8) (8 * k)) ∙ mod-mod-pow (word / 2 ^ (8 * k)) more 8

high_byte_goes : (word room k : ℕ) → room ≤ k → word % 2 ^ (8 * room) / 2 ^ (8 * k) % 256 ≡ 0
high_byte_goes word room k le =
    let wide : word % 2 ^ (8 * room) < 2 ^ (8 * room) = mod-lt word (pow_pos (8 * room)) in
    let more : 8 * room ≤ 8 * k = omega arith in
    let most : 2 ^ (8 * room) ≤ 2 ^ (8 * k) = pow_mono more in
    ap (λ x. x % 256) (div-eq_of_lt (omega (arith, wide, most)))

module _ (word at room past low w : ℕ) (bytes zeros new : List ℕ) (few : at + length bytes ≤ room) (most : room ≤ 8) (some : 0 < room) (cut : past ≡ 64 - 8 * room)
    (is_low : low ≡ word * 2 ^ past % 2 ^ 64 / 2 ^ past) (rest : List ℕ) (no_rest : length rest ≡ 0) (was : zeros ≡ bytes_low_first 0 8 low ++ rest)
    (has : new ≡ put_mid at (at + length bytes - at) zeros bytes) (small : (k : ℕ) → get_or bytes k 0 < 256) (read : w ≡ little_number 8 new) where
  zeros_long : length zeros ≡ 8
  zeros_long = ap length was ∙ length-append (bytes_low_first 0 8 low) rest ∙ omega (arith, no_rest, length-bytes_low_first 0 8 low)

  byte_of : (k : ℕ) → k < 8 → get_or zeros k 0 ≡ word % 2 ^ (8 * room) / 2 ^ (8 * k) % 256
  byte_of k lt = let at_k : k % 8 ≡ k = omega arith in
      word_byte low k zeros rest was lt ∙ ap (λ q. low / 2 ^ (8 * q) % 256) at_k ∙ ap (λ x. x / 2 ^ (8 * k) % 256) (is_low ∙ low_word word room past cut most)

  kept : (k : ℕ) → k < room → get_or zeros k 0 ≡ byte_at (λ _. word) k
  kept k lt = let at_k : k ≡ k % 8 = omega arith in
      byte_of k (omega arith) ∙ low_byte_stays word room k lt ∙ ap (λ q. word / 2 ^ (8 * q) % 256) at_k

  none : (k : ℕ) → room ≤ k → get_or zeros k 0 ≡ 0
  none k le = elim (cases_lt k 8) [
    | inl lt ↦ byte_of k lt ∙ high_byte_goes word room k le
    | inr past_all ↦ get_or_past zeros k 0 (omega (arith, zeros_long))
  ]

  many : length bytes ≡ at + length bytes - at
  many = omega arith

  new_long : length new ≡ 8
  new_long = ap length has ∙ put_long at (at + length bytes - at) zeros bytes many (omega (arith, zeros_long)) ∙ zeros_long

  below : (k : ℕ) → k < at → get_or new k 0 ≡ get_or zeros k 0
  below k lt = ap (λ xs. get_or xs k 0) has ∙ put_below at (at + length bytes - at) zeros bytes many (omega (arith, zeros_long)) k lt

  inside : (k : ℕ) → at ≤ k → k < at + length bytes → get_or new k 0 ≡ get_or bytes (k - at) 0
  inside k le lt = ap (λ xs. get_or xs k 0) has ∙ put_inside at (at + length bytes - at) zeros bytes many (omega (arith, zeros_long)) k le (omega arith)

  above : (k : ℕ) → at + length bytes ≤ k → get_or new k 0 ≡ get_or zeros k 0
  above k le = ap (λ xs. get_or xs k 0) has ∙ put_above at (at + length bytes - at) zeros bytes many (omega (arith, zeros_long)) k (omega arith)

  zeros_small : (k : ℕ) → get_or zeros k 0 < 256
  zeros_small k = elim (cases_lt k room) [
    | inl lt ↦ omega (arith, kept k lt)
    | inr le ↦ omega (arith, none k le)
  ]

  new_small : (k : ℕ) → get_or new k 0 < 256
  new_small k = elim (cases_lt k at) [
    | inl lt ↦ omega (arith, below k lt, zeros_small k)
    | inr le ↦ elim (cases_lt k (at + length bytes)) [
      | inl mid ↦ omega (arith, inside k le mid, small (k - at))
      | inr high ↦ omega (arith, above k high, zeros_small k)
    ]
  ]

  packed : w ≡ packed_word new 0
  packed = read ∙ read_word new new 0 (λ k lt. let e : k ≡ 8 * 0 + k = omega arith in ap (λ q. get_or new q 0) e)

  byte_new : (k : ℕ) → k < 8 → byte_at (λ _. w) k ≡ get_or new k 0
  byte_new k lt = let e : 8 * 0 + k ≡ k = omega arith in
      ap (λ x. x / 2 ^ (8 * (k % 8)) % 256) packed ∙ packed_bytes new 0 k new_small lt (omega (arith, new_long)) ∙ ap (λ q. get_or new q 0) e

  pub spliced_padding : w < 2 ^ (8 * room)
  spliced_padding = subst (λ n. n < 2 ^ (8 * room)) (sym packed) (part_wide (λ k. get_or new k 0) 0 room new_small (λ k le. above k (omega arith) ∙ none k (omega arith)) some)

  pub spliced_inside : HasBytes (λ _. w) at bytes
  spliced_inside k lt = let e : at + k - at ≡ k = omega arith in
      sym (byte_new (at + k) (omega arith) ∙ inside (at + k) (omega arith) (omega arith) ∙ ap (λ q. get_or bytes q 0) e)

  pub spliced_before : (k : ℕ) → k < at → byte_at (λ _. w) k ≡ byte_at (λ _. word) k
  spliced_before k lt = byte_new k (omega arith) ∙ below k lt ∙ kept k (omega arith)

  pub spliced_after : (k : ℕ) → at + length bytes ≤ k → k < room → byte_at (λ _. w) k ≡ byte_at (λ _. word) k
  spliced_after k le lt = byte_new k (omega arith) ∙ above k le ∙ kept k lt

-- nor does one that fits the room that is left
pub part_padding : (w room len i : ℕ) → w < 2 ^ (8 * room) → room ≤ len - 8 * i → w < 2 ^ (8 * (len - 8 * i))
part_padding w room len i wide fits = let more : 8 * room ≤ 8 * (len - 8 * i) = omega arith in let most : 2 ^ (8 * room) ≤ 2 ^ (8 * (len - 8 * i)) = pow_mono more in omega (arith, wide, most)

-- ---- a range in three parts: up to a word, whole words, and the rest
pub range_read : (f : ℕ → ℕ) (from head whole first : ℕ) (out a b c : List ℕ) → head ≤ whole → whole ≤ length out → 8 * first ≡ from + head → length a ≡ length (take head out) →
    length b ≡ length (take (whole - head) (drop head (put_mid 0 head out a))) →
    length c ≡ length (take (length (put_mid head (whole - head) (put_mid 0 head out a) b) - whole) (drop whole (put_mid head (whole - head) (put_mid 0 head out a) b))) →
    HasBytes f from a → HasBytes f (8 * first) b → HasBytes f (from + whole) c →
    HasBytes f from (put_mid whole (length (put_mid head (whole - head) (put_mid 0 head out a) b) - whole) (put_mid head (whole - head) (put_mid 0 head out a) b) c)
range_read f from head whole first out a b c le fits at sa sb sc ha hb hc k lt =
    let one : List ℕ = put_mid 0 head out a in
    let two : List ℕ = put_mid head (whole - head) one b in
    let la : length a ≡ head = sa ∙ length-take-le head out (omega arith) in
    let l1 : length one ≡ length out = put_long 0 head out a la (omega arith) in
    let lb : length b ≡ whole - head = sb ∙ length-take-le (whole - head) (drop head one) (omega (arith, length-drop head one)) in
    let l2 : length two ≡ length out = put_long head (whole - head) one b lb (omega arith) ∙ l1 in
    let lc : length c ≡ length two - whole = sc ∙ length-take-le (length two - whole) (drop whole two) (omega (arith, length-drop whole two)) in
    let l3 : length (put_mid whole (length two - whole) two c) ≡ length out = put_long whole (length two - whole) two c lc (omega arith) ∙ l2 in
    elim (cases_lt k whole) [
      | inl low ↦ put_below whole (length two - whole) two c lc (omega arith) k low ∙ elim (cases_lt k head) [
        | inl first_part ↦ put_below head (whole - head) one b lb (omega arith) k first_part ∙ put_inside 0 head out a la (omega arith) k (omega arith) (omega arith)
            ∙ (let e : k - 0 ≡ k = omega arith in ap (λ q. get_or a q 0) e) ∙ ha k (omega arith)
        | inr mid ↦ (let e : 8 * first + (k - head) ≡ from + k = omega arith in
            put_inside head (whole - head) one b lb (omega arith) k mid (omega arith) ∙ hb (k - head) (omega arith) ∙ ap (byte_at f) e)
      ]
      | inr high ↦ (let e : from + whole + (k - whole) ≡ from + k = omega arith in
          put_inside whole (length two - whole) two c lc (omega arith) k high (omega arith) ∙ hc (k - whole) (omega arith) ∙ ap (byte_at f) e)
    ]

pub range_wrote : (p from head whole first : ℕ) (bs : List ℕ) (o u v z : OwnerView) → head ≤ whole → whole ≤ length bs → 8 * first ≡ from + head → from + length bs ≤ len_of (object_at o p) →
    (a b c : List ℕ) → a ≡ take head bs → b ≡ take (whole - head) (drop head bs) → c ≡ take (length bs - whole) (drop whole bs) →
    Wrote p from a o u → Wrote p (8 * first) b u v → Wrote p (from + whole) c v z → Wrote p from bs o z
range_wrote p from head whole first bs o u v z le fits at room a b c ea eb ec wa wb wc =
    let la : length a ≡ head = ap length ea ∙ length-take-le head bs (omega arith) in
    let lb : length b ≡ whole - head = ap length eb ∙ length-take-le (whole - head) (drop head bs) (omega (arith, length-drop head bs)) in
    let lc : length c ≡ length bs - whole = ap length ec ∙ length-take-le (length bs - whole) (drop whole bs) (omega (arith, length-drop whole bs)) in
    let front : List ℕ = take whole bs in
    let lf : length front ≡ whole = length-take-le whole bs fits in
    let two : Wrote p from front o v = wrote_join p from (8 * first) a b front o u v (omega arith) (omega arith) (omega arith)
    (λ k lt. get_or-take whole bs k 0 (omega arith) ∙ sym (ap (λ xs. get_or xs k 0) ea ∙ get_or-take head bs k 0 (omega arith)))
    (λ k lt. let e : length a + k ≡ head + k = omega arith in get_or-take whole bs (length a + k) 0 (omega arith) ∙ ap (λ q. get_or bs q 0) e
    ∙ sym (ap (λ xs. get_or xs k 0) eb ∙ get_or-take (whole - head) (drop head bs) k 0 (omega arith) ∙ get_or-drop head bs k 0)) wa wb in
    wrote_join p from (from + whole) front c bs o v z (omega arith) (omega arith) (omega arith)
    (λ k lt. sym (get_or-take whole bs k 0 (omega arith)))
    (λ k lt. let e : length front + k ≡ whole + k = omega arith in ap (λ q. get_or bs q 0) e
    ∙ sym (ap (λ xs. get_or xs k 0) ec ∙ get_or-take (length bs - whole) (drop whole bs) k 0 (omega arith) ∙ get_or-drop whole bs k 0)) two wc
