-- Bytes of which eight are a word: one word that is read of them, and one that is written over them.
use Rattle.std.proofs.Common.{◌≡◌, ℕ, ◌+◌, ◌-◌, ◌*◌, ◌/◌, ◌%◌, ◌^◌, ◌<◌, ◌≤◌, arith, sym, refl, ap, subst, ◌∙◌, List, [], ◌∷◌, ◌++◌, length, take, drop, get_or, inl, inr, length-take-le, drop-drop}
use Rattle.std.proofs.lemmas.Bool.{cases_lt}
use Rattle.std.proofs.lemmas.List.{ext_get_or, get_or-take, get_or-drop, length-append, get_or_append_left, get_or-append_right, length-drop}
use Rattle.std.proofs.lemmas.Slice.{drop-put_mid, take-put_mid}
use borrow.Rule.Slice.PartMut.{put_mid}
use Rattle.far_word.specs.Bytes.{bytes_of, packed_word}
use Rattle.far_word.proofs.ByteLaws.{bytes_of-same, bytes_of-get, length-bytes_of}
use Rattle.far_events.specs.state.State.{put}
use Rattle.far_events.proofs.Put.{put_other, put_same}

-- ---- a word that is read
-- the word of some bytes that are those from 8i on
pub packs_part : (bs xs : List ℕ) (i : ℕ) → ((k : ℕ) → k < 8 → get_or xs k 0 ≡ get_or bs (8 * i + k) 0) → packed_word xs 0 ≡ packed_word bs i
packs_part bs xs i h =
    let same : 8 * i + 0 ≡ 8 * i = omega arith in
    let first : get_or xs 0 0 ≡ get_or bs (8 * i) 0 = h 0 (omega arith) ∙ ap (λ q. get_or bs q 0) same in
    omega (arith, first, h 1 (omega arith), h 2 (omega arith), h 3 (omega arith), h 4 (omega arith), h 5 (omega arith), h 6 (omega arith), h 7 (omega arith))

-- the same of eight bytes that are there
module _ (bs : List ℕ) (i m : ℕ) (eight : m ≡ 8) (inside : 8 * i + 8 ≤ length bs) where
  pub whole_length : length (take m (drop (8 * i) bs)) ≡ 8
  whole_length = length-take-le m (drop (8 * i) bs) (omega (arith, eight, length-drop (8 * i) bs)) ∙ eight

  pub packs_whole : packed_word (take m (drop (8 * i) bs)) 0 ≡ packed_word bs i
  packs_whole = packs_part bs (take m (drop (8 * i) bs)) i (λ k lt. get_or-take m (drop (8 * i) bs) k 0 (omega (arith, eight)) ∙ get_or-drop (8 * i) bs k 0)

-- ---- a word that is written
pub bytes_none : (f : ℕ → ℕ) → [] ≡ bytes_of f 0
unfolding bytes_of
bytes_none f = refl

-- the eight bytes of one word, written over a part
pub word_unpacked : (xs ys : List ℕ) (i k n word : ℕ) → ys ≡ bytes_of (λ j. get_or (word ∷ []) j 0) n → n ≡ 8 → 8 * i ≤ length xs →
    take (8 * i + 8) (put_mid (8 * i) k xs ys) ≡ take (8 * i) xs ++ bytes_of (λ _. word) 8
word_unpacked xs ys i k n word is eight fits =
    let eights : ys ≡ bytes_of (λ _. word) 8 = is ∙ ap (bytes_of (λ j. get_or (word ∷ []) j 0)) eight
    ∙ bytes_of-same (λ j. get_or (word ∷ []) j 0) (λ _. word) 8 (λ j lt. let first : j ≡ 0 = omega arith in ap (λ q. get_or (word ∷ []) q 0) first) in
    let long : length ys ≡ 8 = ap length eights ∙ length-bytes_of (λ _. word) 8 in
    take-put_mid (8 * i) k xs ys (8 * i + 8) (omega arith) fits ∙ ap (λ zs. take (8 * i) xs ++ zs) eights

-- what stands behind them stays
pub behind_unpacked : (xs ys : List ℕ) (i k n word : ℕ) → ys ≡ bytes_of (λ j. get_or (word ∷ []) j 0) n → n ≡ 8 → k ≡ 8 → 8 * i ≤ length xs →
    drop (8 * i + 8) (put_mid (8 * i) k xs ys) ≡ drop (8 * i + 8) xs
behind_unpacked xs ys i k n word is eight part fits =
    let long : length ys ≡ k = ap length is ∙ length-bytes_of (λ j. get_or (word ∷ []) j 0) n ∙ eight ∙ sym part in
    drop-put_mid (8 * i) k xs ys (8 * i + 8) (omega (arith, part)) fits long

-- what is as it was from one place on, is so from a later one on
pub drop_further : (m n : ℕ) (xs ys : List ℕ) → m ≤ n → drop m xs ≡ drop m ys → drop n xs ≡ drop n ys
drop_further m n xs ys le same =
    let end : m + (n - m) ≡ n = omega (arith, le) in
    ap (λ k. drop k xs) (sym end) ∙ sym (drop-drop (n - m) m xs) ∙ ap (drop (n - m)) same ∙ drop-drop (n - m) m ys ∙ ap (λ k. drop k ys) end

-- and so behind one word more
pub behind_more : (i : ℕ) (was old new : List ℕ) → drop (8 * i) old ≡ drop (8 * i) was → drop (8 * i + 8) new ≡ drop (8 * i + 8) old → drop (8 * (i + 1)) new ≡ drop (8 * (i + 1)) was
behind_more i was old new before more =
    let end : 8 * i + 8 ≡ 8 * (i + 1) = omega arith in
    let later : 8 * i ≤ 8 * i + 8 = omega arith in
    subst (λ n. drop n new ≡ drop n was) end (more ∙ drop_further (8 * i) (8 * i + 8) old was later before)

-- one word more
pub bytes_more : (f g : ℕ → ℕ) (i word : ℕ) → ((j : ℕ) → j < i → g j ≡ f j) → g i ≡ word → bytes_of f (8 * i) ++ bytes_of (λ _. word) 8 ≡ bytes_of g (8 * i + 8)
bytes_more f g i word old new = ext_get_or 0 _ _ long at where
  front : length (bytes_of f (8 * i)) ≡ 8 * i
  front = length-bytes_of f (8 * i)

  long : length (bytes_of f (8 * i) ++ bytes_of (λ _. word) 8) ≡ length (bytes_of g (8 * i + 8))
  long = length-append (bytes_of f (8 * i)) (bytes_of (λ _. word) 8) ∙ omega (arith, front, length-bytes_of (λ _. word) 8, length-bytes_of g (8 * i + 8))

  at : (k : ℕ) → k < length (bytes_of f (8 * i) ++ bytes_of (λ _. word) 8) → get_or (bytes_of f (8 * i) ++ bytes_of (λ _. word) 8) k 0 ≡ get_or (bytes_of g (8 * i + 8)) k 0
  at k lt = let small : k < 8 * i + 8 = omega (arith, long, length-bytes_of g (8 * i + 8)) in
      elim (cases_lt k (8 * i)) [
        | inl low ↦ get_or_append_left (bytes_of f (8 * i)) (bytes_of (λ _. word) 8) 0 k (omega (arith, front)) ∙ bytes_of-get f (8 * i) k low
            ∙ ap (λ w. w / 2 ^ (8 * (k % 8)) % 256) (sym (old (k / 8) (omega arith))) ∙ sym (bytes_of-get g (8 * i + 8) k small)
        | inr high ↦ (let rest : (k - 8 * i) % 8 ≡ k % 8 = omega arith in
            let here : k / 8 ≡ i = omega arith in
            get_or-append_right (bytes_of f (8 * i)) (bytes_of (λ _. word) 8) (8 * i) k 0 front high ∙ bytes_of-get (λ _. word) 8 (k - 8 * i) (omega arith)
            ∙ ap (λ r. word / 2 ^ (8 * r) % 256) rest ∙ ap (λ w. w / 2 ^ (8 * (k % 8)) % 256) (sym (ap g here ∙ new)) ∙ sym (bytes_of-get g (8 * i + 8) k small))
      ]

-- the bytes of a row of words in which one more word stands
pub row_unpacked : (word : ℕ → ℕ) (i w : ℕ) (old new : List ℕ) → take (8 * i) old ≡ bytes_of word (8 * i) → take (8 * i + 8) new ≡ take (8 * i) old ++ bytes_of (λ _. w) 8 →
    take (8 * (i + 1)) new ≡ bytes_of (put word i w) (8 * (i + 1))
row_unpacked word i w old new front more =
    let end : 8 * i + 8 ≡ 8 * (i + 1) = omega arith in
    subst (λ n. take n new ≡ bytes_of (put word i w) n) end
    (more ∙ ap (λ xs. xs ++ bytes_of (λ _. w) 8) front ∙ bytes_more word (put word i w) i w (λ j lt. put_other word i w j (λ e. omega arith)) (put_same word i w i refl))
