-- Whole words of an object as bytes: what one that is loaded or stored adds.
use Rattle.std.proofs.Common.{◌≡◌, ◌≢◌, ℕ, ◌+◌, ◌-◌, ◌*◌, ◌/◌, ◌%◌, ◌^◌, ◌<◌, ◌≤◌, true, is_some, arith, ap, sym, refl, subst, ◌∙◌, List, ◌++◌, length, get_or, take, drop, inl, inr, Option, Some, None}
use Rattle.std.specs.Int.{bytes_low_first}
use Rattle.std.specs.Prelude.{IsSome, slice_index}
use Rattle.std.proofs.lemmas.Bool.{cases_eq, cases_lt}
use Rattle.std.proofs.lemmas.List.{get_or-take, get_or-drop, get_or_append_left, get_or-append_right, length-take-le, length-append, length-drop}
use mathlib.Core.Logic.{dite}
use native.Mathlib.Decide.{ℕ_discrete}
use lib.Pow.{pow_mono}
use borrow.Rule.Slice.PartMut.{put_mid}
use Rattle.byteorder.specs.Endian.{little_number}
use Rattle.byteorder.specs.Numbers.{length-bytes_low_first}
use Rattle.far_word.specs.declared.sizes.TheConstants.{CELLS, LOG_WORDS, MOST_LOGS}
use Rattle.far_word.specs.Bytes.{byte_at, packed_word, words_of}
use Rattle.far_word.specs.Sizes.{words_for}
use Rattle.far_word.proofs.ByteLaws.{bytes_of-get, bytes_of-words_of, words_of-get}
use Rattle.far_word.proofs.WordBytes.{low_byte, read_word}
use Rattle.far_events.specs.state.State.{addr, put}
use Rattle.far_events.proofs.Put.{put_other, put_same}
use Rattle.atomic_table.specs.Seated.{TableId}
use Rattle.far_table.specs.View.{ObjectView, OwnerView, View, Owner}
use Rattle.far_table.specs.Ranges.{HasBytes, Wrote}
use Rattle.far_table.specs.RowTells.{StoredEach}
use Rattle.far_table.specs.Layout.{table_words}
use Rattle.far_table.specs.Seats.{HasPlaces, Remembers}
use Rattle.far_table.specs.Tells.{owner_of}
use Rattle.far_table.proofs.SeatLemmas.{SeatOk}
use Rattle.far_table.proofs.ViewedLogs.{row_there}
use Rattle.far_table.proofs.HeldFacts.{some_there}
use Rattle.far_table.specs.Views.{ds_of, held_at, len_of, object_at, stored_view, with_word, word_in_view}

-- ---- a list with a part written over
module _ (a n : ℕ) (xs ys : List ℕ) (long : length ys ≡ n) (fits : a + n ≤ length xs) where
  front : length (take a xs) ≡ a
  front = length-take-le a xs (omega arith)

  pub put_below : (k : ℕ) → k < a → get_or (put_mid a n xs ys) k 0 ≡ get_or xs k 0
  put_below k lt = get_or_append_left (take a xs) (ys ++ drop n (drop a xs)) 0 k (omega (arith, front)) ∙ get_or-take a xs k 0 lt

  pub put_inside : (k : ℕ) → a ≤ k → k < a + n → get_or (put_mid a n xs ys) k 0 ≡ get_or ys (k - a) 0
  put_inside k le lt = get_or-append_right (take a xs) (ys ++ drop n (drop a xs)) a k 0 front le ∙ get_or_append_left ys (drop n (drop a xs)) 0 (k - a) (omega arith)

  pub put_above : (k : ℕ) → a + n ≤ k → get_or (put_mid a n xs ys) k 0 ≡ get_or xs k 0
  put_above k le =
      let at : a + (n + (k - a - n)) ≡ k = omega arith in
      get_or-append_right (take a xs) (ys ++ drop n (drop a xs)) a k 0 front (omega arith) ∙ get_or-append_right ys (drop n (drop a xs)) n (k - a) 0 long (omega arith)
      ∙ get_or-drop n (drop a xs) (k - a - n) 0 ∙ get_or-drop a xs (n + (k - a - n)) 0 ∙ ap (λ q. get_or xs q 0) at

  pub put_long : length (put_mid a n xs ys) ≡ length xs
  put_long = omega (arith, length-append (take a xs) (ys ++ drop n (drop a xs)), front, length-append ys (drop n (drop a xs)), length-drop n (drop a xs), length-drop a xs)

-- ---- the bytes of one word
-- as they are written
pub word_byte : (w k : ℕ) (buf rest : List ℕ) → buf ≡ bytes_low_first 0 8 w ++ rest → k < 8 → get_or buf k 0 ≡ byte_at (λ _. w) k
word_byte w k buf rest is lt =
    let e : 0 + k ≡ k % 8 = omega arith in
    ap (λ xs. get_or xs k 0) is ∙ get_or_append_left (bytes_low_first 0 8 w) rest 0 k (omega (arith, length-bytes_low_first 0 8 w)) ∙ low_byte 0 8 w k lt ∙ ap (λ q. w / 2 ^ (8 * q) % 256) e

-- they stand in a row of words
pub in_row : (f : ℕ → ℕ) (w i k : ℕ) → w ≡ f i → k / 8 ≡ i → byte_at (λ _. w) (k % 8) ≡ byte_at f k
in_row f w i k is at = let e : k % 8 % 8 ≡ k % 8 = omega arith in
    ap (λ q. w / 2 ^ (8 * q) % 256) e ∙ ap (λ x. x / 2 ^ (8 * (k % 8)) % 256) (is ∙ ap f (sym at))

-- the bytes of a packed word
pub packed_bytes : (bs : List ℕ) (i k : ℕ) → ((q : ℕ) → get_or bs q 0 < 256) → k < 8 → 8 * i + k < length bs → byte_at (λ _. packed_word bs i) k ≡ get_or bs (8 * i + k) 0
packed_bytes bs i k small few lt =
    let here : (8 * i + k) / 8 ≡ i = omega arith in
    let there : k % 8 ≡ (8 * i + k) % 8 = omega arith in
    let f : ℕ → ℕ = λ q. get_or (words_of bs) q 0 in
    ap (λ q. packed_word bs i / 2 ^ (8 * q) % 256) there ∙ ap (λ x. x / 2 ^ (8 * ((8 * i + k) % 8)) % 256) (sym (ap f here ∙ words_of-get bs i (omega arith)))
    ∙ sym (bytes_of-get f (length bs) (8 * i + k) lt) ∙ ap (λ xs. get_or xs (8 * i + k) 0) (bytes_of-words_of bs small)

-- ---- one word of an object that is stored
same_len : (i w : ℕ) (x : Option ObjectView) → len_of (with_word i w x) ≡ len_of x
same_len i w None = refl
same_len i w (Some x) = refl

same_ds : (i w : ℕ) (x : Option ObjectView) → ds_of (with_word i w x) ≡ ds_of x
same_ds i w None = refl
same_ds i w (Some x) = refl

same_some : (i w : ℕ) (x : Option ObjectView) → is_some (with_word i w x) ≡ is_some x
same_some i w None = refl
same_some i w (Some x) = refl

put_word : (i w : ℕ) (x : Option ObjectView) (j : ℕ) → 0 < len_of x → word_in_view (with_word i w x) j ≡ put (word_in_view x) i w j
put_word i w None j some = absurd (omega arith)
put_word i w (Some x) j some = refl

module _ (o : OwnerView) (p i w from : ℕ) (bytes : List ℕ) (at_word : i ≡ from / 8) (one : from % 8 + length bytes ≤ 8) (some : 0 < length bytes)
    (fits : from + length bytes ≤ len_of (object_at o p)) (inside : o.honest ≡ true → HasBytes (λ _. w) (from % 8) bytes)
    (before : o.honest ≡ true → (k : ℕ) → k < from % 8 → byte_at (λ _. w) k ≡ byte_at (λ _. word_in_view (object_at o p) i) k)
    (after : o.honest ≡ true → (k : ℕ) → from % 8 + length bytes ≤ k → k < 8 → 8 * i + k < len_of (object_at o p) → byte_at (λ _. w) k ≡ byte_at (λ _. word_in_view (object_at o p) i) k) where
  o' : OwnerView
  o' = stored_view p i w o

  f : ℕ → ℕ
  f = word_in_view (object_at o p)

  here : object_at (stored_view p i w o) p ≡ with_word i w (object_at o p)
  here = put_same (object_at o) p (with_word i w (object_at o p)) p refl

  words : (j : ℕ) → word_in_view (object_at (stored_view p i w o) p) j ≡ put (word_in_view (object_at o p)) i w j
  words j = ap (λ x. word_in_view x j) here ∙ put_word i w (object_at o p) j (omega arith)

  in_word : (k : ℕ) → k / 8 ≡ i → byte_at (λ _. w) (k % 8) ≡ byte_at (word_in_view (object_at (stored_view p i w o) p)) k
  in_word k at = in_row (word_in_view (object_at (stored_view p i w o) p)) w i k (sym (words i ∙ put_same (word_in_view (object_at o p)) i w i refl)) at

  elsewhere : (k : ℕ) → k / 8 ≢ i → byte_at (word_in_view (object_at (stored_view p i w o) p)) k ≡ byte_at (word_in_view (object_at o p)) k
  elsewhere k ne = ap (λ x. x / 2 ^ (8 * (k % 8)) % 256) (words (k / 8) ∙ put_other (word_in_view (object_at o p)) i w (k / 8) ne)

  pub stored_wrote : Wrote p from bytes o (stored_view p i w o)
  stored_wrote = record {
    rest = refl;
    others = λ q ne. put_other (object_at o) p (with_word i w (object_at o p)) q ne;
    there = ap is_some here ∙ same_some i w (object_at o p);
    len = ap len_of here ∙ same_len i w (object_at o p);
    ds = ap ds_of here ∙ same_ds i w (object_at o p);
    inside = λ h k lt. let e : from % 8 + k ≡ (from + k) % 8 = omega arith in inside h k lt ∙ ap (byte_at (λ _. w)) e ∙ in_word (from + k) (omega arith);
    before = λ h k lt. elim (cases_eq (k / 8) i) [
      | inl e ↦ sym (in_word k e) ∙ before h (k % 8) (omega arith) ∙ in_row (word_in_view (object_at o p)) (word_in_view (object_at o p) i) i k refl e
      | inr ne ↦ elsewhere k ne
    ];
    after = λ h k le lt. elim (cases_eq (k / 8) i) [
      | inl e ↦ sym (in_word k e) ∙ after h (k % 8) (omega arith) (omega arith) (omega arith) ∙ in_row (word_in_view (object_at o p)) (word_in_view (object_at o p) i) i k refl e
      | inr ne ↦ elsewhere k ne
    ];
  }

-- ---- parts after one another

pub wrote_join : (p from next : ℕ) (xs ys zs : List ℕ) (o u v : OwnerView) → length zs ≡ length xs + length ys → next ≡ from + length xs → next + length ys ≤ len_of (object_at o p) →
    ((k : ℕ) → k < length xs → get_or zs k 0 ≡ get_or xs k 0) → ((k : ℕ) → k < length ys → get_or zs (length xs + k) 0 ≡ get_or ys k 0) →
    Wrote p from xs o u → Wrote p next ys u v → Wrote p from zs o v
wrote_join p from next xs ys zs o u v long at fits left right a b =
    let honest : u.honest ≡ o.honest = ap (λ (z : OwnerView). z.honest) a.rest in
    let old : ℕ → ℕ = word_in_view (object_at o p) in
    let mid : ℕ → ℕ = word_in_view (object_at u p) in
    let new : ℕ → ℕ = word_in_view (object_at v p) in record {
      rest = b.rest ∙ ap (λ (z : OwnerView). record z { objects = v.objects }) a.rest;
      others = λ q ne. b.others q ne ∙ a.others q ne;
      there = b.there ∙ a.there;
      len = b.len ∙ a.len;
      ds = b.ds ∙ a.ds;
      inside = λ h k lt. elim (cases_lt k (length xs)) [
        | inl low ↦ left k low ∙ a.inside h k low ∙ sym (b.before (honest ∙ h) (from + k) (omega arith))
        | inr high ↦ (let e : length xs + (k - length xs) ≡ k = omega arith in let e2 : next + (k - length xs) ≡ from + k = omega arith in
            ap (λ q. get_or zs q 0) (sym e) ∙ right (k - length xs) (omega arith) ∙ b.inside (honest ∙ h) (k - length xs) (omega arith) ∙ ap (byte_at new) e2)
      ];
      before = λ h k lt. b.before (honest ∙ h) k (omega arith) ∙ a.before h k lt;
      after = λ h k le lt. b.after (honest ∙ h) k (omega arith) (omega (arith, a.len)) ∙ a.after h k (omega arith) lt;
    }

-- ---- whole words
-- a word that is read of bytes has them
pub read_whole : (bs xs : List ℕ) (i w : ℕ) → ((k : ℕ) → get_or bs k 0 < 256) → 8 * i + 8 ≤ length bs → xs ≡ take (length bs - 8 * i) (drop (8 * i) bs) → w ≡ little_number 8 xs →
    (k : ℕ) → k < 8 → byte_at (λ _. w) k ≡ get_or bs (8 * i + k) 0
read_whole bs xs i w small fits part read k lt =
    let packed : little_number 8 xs ≡ packed_word bs i = read_word bs xs i (λ q few. ap (λ ys. get_or ys q 0) part ∙ get_or-take (length bs - 8 * i) (drop (8 * i) bs) q 0 (omega arith) ∙ get_or-drop (8 * i) bs q 0) in
    ap (λ x. x / 2 ^ (8 * (k % 8)) % 256) (read ∙ packed) ∙ packed_bytes bs i k small lt (omega arith)

-- it leaves no bytes past an object's end
pub whole_padding : (w len i : ℕ) → w < 2 ^ 64 → 8 * i + 8 ≤ len → w < 2 ^ (8 * (len - 8 * i))
whole_padding w len i wide fits = let room : 64 ≤ 8 * (len - 8 * i) = omega arith in let more : 2 ^ 64 ≤ 2 ^ (8 * (len - 8 * i)) = pow_mono room in omega (arith, wide, more)

-- one word is stored
eight_of : (bs : List ℕ) (i : ℕ) → 8 * i + 8 ≤ length bs → length (take 8 (drop (8 * i) bs)) ≡ 8
eight_of bs i fits = length-take-le 8 (drop (8 * i) bs) (omega (arith, length-drop (8 * i) bs))

byte_of : (bs : List ℕ) (i k : ℕ) → k < 8 → get_or (take 8 (drop (8 * i) bs)) k 0 ≡ get_or bs (8 * i + k) 0
byte_of bs i k lt = get_or-take 8 (drop (8 * i) bs) k 0 lt ∙ get_or-drop (8 * i) bs k 0

pub word_wrote : (p first i w : ℕ) (bs xs : List ℕ) (u : OwnerView) → ((k : ℕ) → get_or bs k 0 < 256) → 8 * i + 8 ≤ length bs → 8 * (first + i) + 8 ≤ len_of (object_at u p) →
    xs ≡ take (length bs - 8 * i) (drop (8 * i) bs) → w ≡ little_number 8 xs → Wrote p (8 * (first + i)) (take 8 (drop (8 * i) bs)) u (stored_view p (first + i) w u)
word_wrote p first i w bs xs u small fits room part read =
    let ys : List ℕ = take 8 (drop (8 * i) bs) in
    let eight : length ys ≡ 8 = eight_of bs i fits in
    let from : ℕ = 8 * (first + i) in
    let zero_at : from % 8 ≡ 0 = omega arith in
    stored_wrote u p (first + i) w from ys (omega arith) (omega arith) (omega arith) (omega arith)
    (λ _ k lt. let few : k < 8 = omega arith in let e : k ≡ from % 8 + k = omega arith in byte_of bs i k few ∙ sym (read_whole bs xs i w small fits part read k few) ∙ ap (byte_at (λ _. w)) e)
    (λ _ k lt. absurd (omega arith)) (λ _ k le lt _. absurd (omega arith))

-- one word more is stored
pub whole_wrote : (p first i w : ℕ) (bs xs : List ℕ) (o u : OwnerView) → ((k : ℕ) → get_or bs k 0 < 256) → 8 * i + 8 ≤ length bs → 8 * (first + i) + 8 ≤ len_of (object_at u p) →
    xs ≡ take (length bs - 8 * i) (drop (8 * i) bs) → w ≡ little_number 8 xs → Wrote p (8 * first) (take (8 * i) bs) o u → Wrote p (8 * first) (take (8 * (i + 1)) bs) o (stored_view p (first + i) w u)
whole_wrote p first i w bs xs o u small fits room part read before =
    let ys : List ℕ = take 8 (drop (8 * i) bs) in
    let eight : length ys ≡ 8 = eight_of bs i fits in
    let low : length (take (8 * i) bs) ≡ 8 * i = length-take-le (8 * i) bs (omega arith) in
    let high : length (take (8 * (i + 1)) bs) ≡ 8 * (i + 1) = length-take-le (8 * (i + 1)) bs (omega arith) in
    let len : len_of (object_at u p) ≡ len_of (object_at o p) = before.len in
    wrote_join p (8 * first) (8 * (first + i)) (take (8 * i) bs) ys (take (8 * (i + 1)) bs) o u (stored_view p (first + i) w u) (omega arith) (omega arith) (omega arith)
    (λ k lt. get_or-take (8 * (i + 1)) bs k 0 (omega arith) ∙ sym (get_or-take (8 * i) bs k 0 (omega arith)))
    (λ k lt. let e : length (take (8 * i) bs) + k ≡ 8 * i + k = omega arith in get_or-take (8 * (i + 1)) bs (length (take (8 * i) bs) + k) 0 (omega arith) ∙ ap (λ q. get_or bs q 0) e ∙ sym (byte_of bs i k (omega arith)))
    before (word_wrote p first i w bs xs u small fits room part read)

-- one word more is loaded
pub whole_read : (f : ℕ → ℕ) (first i w : ℕ) (bs buf : List ℕ) → 8 * i + 8 ≤ length bs → buf ≡ bytes_low_first 0 8 w ++ drop 8 (take (length bs - 8 * i) (drop (8 * i) bs)) → w ≡ f (first + i) →
    ((k : ℕ) → k < 8 * i → get_or bs k 0 ≡ byte_at f (8 * first + k)) →
    (k : ℕ) → k < 8 * (i + 1) → get_or (put_mid (8 * i) (length bs - 8 * i) bs buf) k 0 ≡ byte_at f (8 * first + k)
whole_read f first i w bs buf fits word found before k lt =
    let left : List ℕ = take (length bs - 8 * i) (drop (8 * i) bs) in
    let long : length left ≡ length bs - 8 * i = length-take-le (length bs - 8 * i) (drop (8 * i) bs) (omega (arith, length-drop (8 * i) bs)) in
    let all : length buf ≡ length bs - 8 * i = ap length word ∙ length-append (bytes_low_first 0 8 w) (drop 8 left) ∙ omega (arith, length-bytes_low_first 0 8 w, length-drop 8 left) in
    elim (cases_lt k (8 * i)) [
      | inl low ↦ put_below (8 * i) (length bs - 8 * i) bs buf all (omega arith) k low ∙ before k low
      | inr high ↦ (let at : k - 8 * i ≡ (8 * first + k) % 8 = omega arith in
          put_inside (8 * i) (length bs - 8 * i) bs buf all (omega arith) k high (omega arith) ∙ word_byte w (k - 8 * i) buf (drop 8 left) word (omega arith)
          ∙ ap (byte_at (λ _. w)) at ∙ in_row f w (first + i) (8 * first + k) found (omega arith))
    ]

-- ---- what is held stays so
pub places_wrote : (p from : ℕ) (bytes places : List ℕ) (o o' : OwnerView) → Wrote p from bytes o o' → HasPlaces o places → HasPlaces o' places
places_wrote p from bytes places o o' w has q place h =
    let x = has q place (sym (ap (λ (z : OwnerView). held_at z q) w.rest) ∙ h) in
    let same : len_of (object_at o' q) ≡ len_of (object_at o q) = dite (ℕ_discrete q p)
    (λ e. ap (λ z. len_of (object_at o' z)) e ∙ (w.len ∙ ap (λ z. len_of (object_at o z)) (sym e)))
    (λ ne. ap len_of (w.others q ne)) in
    record {
      own = x.own ∙ sym (ap (λ (z : OwnerView). z.number) w.rest);
      here = x.here;
      fits = subst (λ n. addr place + 1 + words_for n ≤ MOST_LOGS * LOG_WORDS) (sym same) x.fits;
      inside = subst (λ (z : ℕ × ℕ). addr place + 1 + words_for z.0 ≤ z.1 * LOG_WORDS) (λ i. (sym same i, sym (ap (λ (z : OwnerView). z.logs) w.rest) i)) x.inside;
    }

-- the invariant of a seat holds once it has stored a row
pub row_stays : (id later here : TableId) (v v' : View) (number epoch : ℕ) (places : List ℕ) (p from first n : ℕ) (row : ℕ → ℕ) (bytes : List ℕ) → SeatOk id here v number epoch places →
    later ≡ id → v' ≡ Owner (owner_of v') → Wrote p from bytes (owner_of v) (owner_of v') → StoredEach p first row n (owner_of v) (owner_of v') → SeatOk later here v' number epoch places
row_stays id later here v v' number epoch places p from first n row bytes i same owner w stored = (
  same ∙ i.0,
  ap (λ (z : TableId). z.words) same ∙ (i.1 ∙ ap (λ (z : OwnerView). table_words z.logs) (sym w.rest)),
  owner,
  ap (λ (z : OwnerView). z.number) w.rest ∙ i.3,
  i.4,
  subst (λ (z : OwnerView). Remembers z.epoch epoch) (sym w.rest) i.5,
  i.6,
  places_wrote p from bytes places (owner_of v) (owner_of v') w i.7,
  row_there p first row n (owner_of v) (owner_of v') stored i.8,
)

-- the words of what is held lie within the logs
pub places_within : (p : ℕ) (places : List ℕ) (o : OwnerView) → HasPlaces o places → IsSome (held_at o p) → slice_index places (p % CELLS) + words_for (len_of (object_at o p)) ≤ MOST_LOGS * LOG_WORDS
places_within p places o has held = let there = some_there (held_at o p) held in let x = has p there.0 there.1 in omega (arith, x.here, x.fits)
