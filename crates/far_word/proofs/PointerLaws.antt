-- The pointer word: what a word says, the word that says it, and marks set and cleared.
use Rattle.std.proofs.Common.{◌≡◌, ◌≢◌, ℕ, ◌+◌, ◌-◌, ◌*◌, ◌/◌, ◌^◌, ◌<◌, ◌≤◌, true, false, nat_eq, sym, ◌∙◌, ap, subst, refl, arith, Option, Some, None, bit_or, bit_and, IfSome}
use Rattle.std.proofs.lemmas.Bool.Decides.{nat_tests}
use Rattle.far_word.specs.Mark.{position, field, is_set, bit_of, marks_number, marks_of, marks_with}
use Rattle.far_word.specs.Pointer.{IsPtr, word_of, read_of, near_of, far_of, near_fits, far_fits, names_object, takes_mark, with_mark, without_evac}
use Rattle.far_word.specs.Sizes.{size_of}
use Rattle.far_word.specs.declared.mark.Mark.{Mark}
use Rattle.far_word.specs.declared.mark.Mark.TheVariants.{Hot, Evac, Moved, Dropped, Dirty}
use Rattle.far_word.specs.declared.mark.Marks.{Marks}
use Rattle.far_word.specs.declared.pointer.Place.{Place}
use Rattle.far_word.specs.declared.pointer.PtrWord.{PtrWord}
use Rattle.far_word.specs.declared.pointer.PtrWord.TheVariants.{Free, Near, Far}
use Rattle.far_word.specs.declared.sizes.TheConstants.{LONGEST, LOG_WORDS, MOST_LOGS}
use Rattle.far_word.proofs.Words.{split_at, bit_set, bit_small, set_from, or_up, or_mark, and_mark, at_guard, at_choice}

-- ---- the marks
pub marks_small : (m : Marks) → marks_number m < 2 ^ 4
marks_small m = omega (arith, bit_small m.hot, bit_small m.evac, bit_small m.moved, bit_small m.dropped)

marks_fields : (w : ℕ) → marks_number (marks_of w) ≡ field w 59 1 + field w 60 1 * 2 + field w 61 1 * 4 + field w 62 1 * 8
marks_fields w = omega (arith, bit_set w 59, bit_set w 60, bit_set w 61, bit_set w 62)

-- ---- a word is packed from its lowest field up
pub near_sum : (len ds at log d m : ℕ) → len < 2 ^ 16 → ds < 2 ^ 8 → at < 2 ^ 10 → log < 2 ^ 8 → d < 2 → m < 2 ^ 4 →
    bit_or (bit_or (bit_or (bit_or (bit_or (bit_or (bit_or len (ds * 2 ^ 16)) (at * 2 ^ 24)) (log * 2 ^ 34)) (d * 2 ^ 57)) (1 * 2 ^ 58)) (m * 2 ^ 59)) (1 * 2 ^ 63)
    ≡ len + ds * 2 ^ 16 + at * 2 ^ 24 + log * 2 ^ 34 + d * 2 ^ 57 + 2 ^ 58 + m * 2 ^ 59 + 2 ^ 63
near_sum len ds at log d m p q r s u t =
    rw (
      or_up len ds 16 (omega arith),
      or_up (len + ds * 2 ^ 16) at 24 (omega arith),
      or_up (len + ds * 2 ^ 16 + at * 2 ^ 24) log 34 (omega arith),
      or_up (len + ds * 2 ^ 16 + at * 2 ^ 24 + log * 2 ^ 34) d 57 (omega arith),
      or_up (len + ds * 2 ^ 16 + at * 2 ^ 24 + log * 2 ^ 34 + d * 2 ^ 57) 1 58 (omega arith),
      or_up (len + ds * 2 ^ 16 + at * 2 ^ 24 + log * 2 ^ 34 + d * 2 ^ 57 + 1 * 2 ^ 58) m 59 (omega arith),
      or_up (len + ds * 2 ^ 16 + at * 2 ^ 24 + log * 2 ^ 34 + d * 2 ^ 57 + 1 * 2 ^ 58 + m * 2 ^ 59) 1 63 (omega arith),
    ) refl

pub far_sum : (len ds m : ℕ) → len < 2 ^ 16 → ds < 2 ^ 8 → m < 2 ^ 4 →
    bit_or (bit_or (bit_or len (ds * 2 ^ 16)) (1 * 2 ^ 58)) (m * 2 ^ 59) ≡ len + ds * 2 ^ 16 + 2 ^ 58 + m * 2 ^ 59
far_sum len ds m p q t =
    rw (or_up len ds 16 (omega arith), or_up (len + ds * 2 ^ 16) 1 58 (omega arith), or_up (len + ds * 2 ^ 16 + 1 * 2 ^ 58) m 59 (omega arith)) refl

-- ---- what is read stands in the word
pub all_fields : (w : ℕ) → w < 2 ^ 64 → field w 42 15 ≡ 0 →
    w ≡ field w 0 16 + field w 16 8 * 2 ^ 16 + field w 24 10 * 2 ^ 24 + field w 34 8 * 2 ^ 34 + field w 57 1 * 2 ^ 57 + field w 58 1 * 2 ^ 58 + (field w 59 1 + field w 60 1 * 2 + field w 61 1 * 4 + field w 62 1 * 8) * 2 ^ 59 + w / 2 ^ 63 * 2 ^ 63
all_fields w fits gap = omega (arith, split_at w 0 16, split_at w 16 8, split_at w 24 10, split_at w 34 8, split_at w 42 15, split_at w 57 1, split_at w 58 1, split_at w 59 1, split_at w 60 1, split_at w 61 1, split_at w 62 1)

abbrev pub Says : ℕ → PtrWord → Type 0
Says w v = IsPtr v × (word_of v ≡ w)

near_says : (w : ℕ) → w < 2 ^ 64 → is_set w 58 ≡ true → field w 42 15 ≡ 0 → 0 < field w 0 16 → field w 0 16 ≤ LONGEST → is_set w 63 ≡ true → IfSome (near_of w) (Says w)
near_says w fits used gap some most near = at_guard (Says w) _ _ (λ (h : near_fits w ≡ true).
    let log : field w 34 8 < MOST_LOGS = grind (arith, nat_tests) in
    let span : field w 24 10 + size_of (field w 0 16) ≤ LOG_WORDS = grind (arith, nat_tests) in
    let one : field w 58 1 ≡ 1 = grind (arith, nat_tests) in
    let top : field w 63 1 ≡ 1 = grind (arith, nat_tests) in
    ((some, most, omega arith, log, span), omega (arith, all_fields w fits gap, marks_fields w, bit_set w 57)))

far_says : (w : ℕ) → w < 2 ^ 64 → is_set w 58 ≡ true → field w 42 15 ≡ 0 → 0 < field w 0 16 → field w 0 16 ≤ LONGEST → is_set w 63 ≡ false → IfSome (far_of w) (Says w)
far_says w fits used gap some most near = at_guard (Says w) _ _ (λ (h : far_fits w ≡ true).
    let log : field w 34 8 ≡ 0 = grind (arith, nat_tests) in
    let at : field w 24 10 ≡ 0 = grind (arith, nat_tests) in
    let evac : is_set w 61 ≡ false = grind (arith, nat_tests) in
    let clean : is_set w 57 ≡ false = grind (arith, nat_tests) in
    let none : field w 57 1 ≡ 0 = grind (arith, nat_tests) in
    let one : field w 58 1 ≡ 1 = grind (arith, nat_tests) in
    let top : field w 63 1 ≡ 0 = grind (arith, nat_tests) in
    ((some, most, omega arith, evac, clean), omega (arith, all_fields w fits gap, marks_fields w, bit_set w 57)))

pub pointer_found : (w : ℕ) → w < 2 ^ 64 → IfSome (read_of w) (Says w)
unfolding read_of
pointer_found w fits = at_choice (Says w) _ _ _ (λ (h : nat_eq w 0 ≡ true). let e : 0 ≡ w = grind (arith, nat_tests) in (tt, e)) (λ _. at_guard (Says w) _ _ (λ (h : names_object w ≡ true).
    let used : is_set w 58 ≡ true = grind (arith, nat_tests) in
    let gap : field w 42 15 ≡ 0 = grind (arith, nat_tests) in
    let some : 0 < field w 0 16 = grind (arith, nat_tests) in
    let most : field w 0 16 ≤ LONGEST = grind (arith, nat_tests) in
    at_choice (Says w) _ _ _ (near_says w fits used gap some most) (far_says w fits used gap some most)))

-- a pointer that was read lies on the layout, and its word is the one read
pub read_says : (w : ℕ) (v : PtrWord) → w < 2 ^ 64 → read_of w ≡ Some v → IsPtr v × (word_of v ≡ w)
read_says w v fits e = subst (λ (o : Option PtrWord). IfSome o (Says w)) e (pointer_found w fits)

-- ---- the fields of the word of a pointer
module _ (len ds at log : ℕ) (m : Marks) (p : len < 2 ^ 16) (q : ds < 2 ^ 8) (r : at < 2 ^ 10) (s : log < 2 ^ 8) where
  pub near_fields : (w : ℕ) → w ≡ len + ds * 2 ^ 16 + at * 2 ^ 24 + log * 2 ^ 34 + bit_of m.dirty * 2 ^ 57 + 2 ^ 58 + marks_number m * 2 ^ 59 + 2 ^ 63 →
      (field w 0 16 ≡ len) × (field w 16 8 ≡ ds) × (field w 24 10 ≡ at) × (field w 34 8 ≡ log) × (field w 42 15 ≡ 0) × (field w 58 1 ≡ 1) × (field w 63 1 ≡ 1)
  near_fields w e = let t : marks_number m < 2 ^ 4 = marks_small m in let y : bit_of m.dirty < 2 = bit_small m.dirty in (omega arith, omega arith, omega arith, omega arith, omega arith, omega arith, omega arith)

  near_marks : (w : ℕ) → w ≡ len + ds * 2 ^ 16 + at * 2 ^ 24 + log * 2 ^ 34 + bit_of m.dirty * 2 ^ 57 + 2 ^ 58 + marks_number m * 2 ^ 59 + 2 ^ 63 →
      (field w 59 1 ≡ bit_of m.dropped) × (field w 60 1 ≡ bit_of m.moved) × (field w 61 1 ≡ bit_of m.evac) × (field w 62 1 ≡ bit_of m.hot) × (field w 57 1 ≡ bit_of m.dirty)
  near_marks w e =
      let y : bit_of m.dirty < 2 = bit_small m.dirty in
      let a : bit_of m.dropped < 2 = bit_small m.dropped in
      let b : bit_of m.moved < 2 = bit_small m.moved in
      let c : bit_of m.evac < 2 = bit_small m.evac in
      let d : bit_of m.hot < 2 = bit_small m.hot in
      (omega arith, omega arith, omega arith, omega arith, omega arith)

module _ (len ds : ℕ) (m : Marks) (p : len < 2 ^ 16) (q : ds < 2 ^ 8) where
  pub far_fields : (w : ℕ) → w ≡ len + ds * 2 ^ 16 + 2 ^ 58 + marks_number m * 2 ^ 59 →
      (field w 0 16 ≡ len) × (field w 16 8 ≡ ds) × (field w 24 10 ≡ 0) × (field w 34 8 ≡ 0) × (field w 42 15 ≡ 0) × (field w 58 1 ≡ 1) × (field w 63 1 ≡ 0)
  far_fields w e = let t : marks_number m < 2 ^ 4 = marks_small m in (omega arith, omega arith, omega arith, omega arith, omega arith, omega arith, omega arith)

  far_marks : (w : ℕ) → w ≡ len + ds * 2 ^ 16 + 2 ^ 58 + marks_number m * 2 ^ 59 →
      (field w 59 1 ≡ bit_of m.dropped) × (field w 60 1 ≡ bit_of m.moved) × (field w 61 1 ≡ bit_of m.evac) × (field w 62 1 ≡ bit_of m.hot) × (field w 57 1 ≡ 0)
  far_marks w e =
      let a : bit_of m.dropped < 2 = bit_small m.dropped in
      let b : bit_of m.moved < 2 = bit_small m.moved in
      let c : bit_of m.evac < 2 = bit_small m.evac in
      let d : bit_of m.hot < 2 = bit_small m.hot in
      (omega arith, omega arith, omega arith, omega arith, omega arith)

-- ---- the word of a pointer is read as that pointer
marks_back : (w : ℕ) (m : Marks) → (field w 59 1 ≡ bit_of m.dropped) × (field w 60 1 ≡ bit_of m.moved) × (field w 61 1 ≡ bit_of m.evac) × (field w 62 1 ≡ bit_of m.hot) × (field w 57 1 ≡ bit_of m.dirty) → marks_of w ≡ m
marks_back w m h =
    let a : is_set w 59 ≡ m.dropped = set_from w 59 m.dropped h.0 in
    let b : is_set w 60 ≡ m.moved = set_from w 60 m.moved h.1 in
    let c : is_set w 61 ≡ m.evac = set_from w 61 m.evac h.2 in
    let d : is_set w 62 ≡ m.hot = set_from w 62 m.hot h.3 in
    let y : is_set w 57 ≡ m.dirty = set_from w 57 m.dirty h.4 in
    rw (y, d, c, b, a) refl

used_back : (w : ℕ) → field w 58 1 ≡ 1 → field w 42 15 ≡ 0 → 0 < field w 0 16 → field w 0 16 ≤ LONGEST → names_object w ≡ true
used_back w a b c d = grind (arith, nat_tests)

near_fits_back : (w : ℕ) → field w 34 8 < MOST_LOGS → field w 24 10 + size_of (field w 0 16) ≤ LOG_WORDS → near_fits w ≡ true
near_fits_back w a b = grind (arith, nat_tests)

far_fits_back : (w : ℕ) → field w 34 8 ≡ 0 → field w 24 10 ≡ 0 → is_set w 61 ≡ false → is_set w 57 ≡ false → far_fits w ≡ true
far_fits_back w a b c d = grind (arith, nat_tests)

read_near : (w len ds : ℕ) (place : Place) (m : Marks) → IsPtr (Near len ds place m) → w ≡ word_of (Near len ds place m) → read_of w ≡ Some (Near len ds place m)
unfolding read_of
read_near w len ds place m ok e =
    let f = near_fields len ds place.at place.log m (omega arith) (omega arith) (omega arith) (omega arith) w e in
    let ms = near_marks len ds place.at place.log m (omega arith) (omega arith) (omega arith) (omega arith) w e in
    let fit : near_fits w ≡ true = near_fits_back w (omega arith) (rw (f.2, f.0) ok.4) in
    let used : names_object w ≡ true = used_back w f.5 f.4 (omega arith) (omega arith) in
    let some : nat_eq w 0 ≡ false = grind (arith, nat_tests) in
    let top : is_set w 63 ≡ true = grind (arith, nat_tests) in
    let mm : marks_of w ≡ m = marks_back w m ms in
    rw (some, used, top, fit, mm, f.0, f.1, f.2, f.3) refl

read_far : (w len ds : ℕ) (m : Marks) → IsPtr (Far len ds m) → w ≡ word_of (Far len ds m) → read_of w ≡ Some (Far len ds m)
unfolding read_of
read_far w len ds m ok e =
    let f = far_fields len ds m (omega arith) (omega arith) w e in
    let ms = far_marks len ds m (omega arith) (omega arith) w e in
    let used : names_object w ≡ true = used_back w f.5 f.4 (omega arith) (omega arith) in
    let some : nat_eq w 0 ≡ false = grind (arith, nat_tests) in
    let top : is_set w 63 ≡ false = grind (arith, nat_tests) in
    let mm : marks_of w ≡ m = marks_back w m (ms.0, ms.1, ms.2, ms.3, ms.4 ∙ sym (ap bit_of ok.4)) in
    let cold : is_set w 61 ≡ false = set_from w 61 false (ms.2 ∙ ap bit_of ok.3) in
    let clean : is_set w 57 ≡ false = set_from w 57 false ms.4 in
    let fit : far_fits w ≡ true = far_fits_back w f.3 f.2 cold clean in
    rw (some, used, top, fit, mm, f.0, f.1) refl

-- the word of a pointer on the layout is read as that pointer
pub read_back : (v : PtrWord) → IsPtr v → read_of (word_of v) ≡ Some v
unfolding read_of
read_back Free ok = refl
read_back (Near len ds place m) ok = read_near _ len ds place m ok refl
read_back (Far len ds m) ok = read_far _ len ds m ok refl

-- the same, of a word that is known to be the pointer's
pub read_only : (w : ℕ) (v : PtrWord) → IsPtr v → word_of v ≡ w → read_of w ≡ Some v
read_only w v ok e = subst (λ (x : ℕ). read_of x ≡ Some v) e (read_back v ok)

-- the word of a pointer fits
pub word_fits : (v : PtrWord) → IsPtr v → word_of v < 2 ^ 64
word_fits Free ok = omega arith
word_fits (Near len ds place m) ok = let y : bit_of m.dirty < 2 = bit_small m.dirty in let small : marks_number m < 2 ^ 4 = marks_small m in omega arith
word_fits (Far len ds m) ok = let small : marks_number m < 2 ^ 4 = marks_small m in omega arith

-- ---- a mark is set by one `|`
-- the pointer with one mark more lies on the layout
pub IsPtr-with_mark : (k : Mark) (v : PtrWord) → IsPtr v → takes_mark k v ≡ true → IsPtr (with_mark k v)
IsPtr-with_mark k Free ok t = tt
IsPtr-with_mark k (Near len ds place m) ok t = ok
IsPtr-with_mark Hot (Far len ds m) ok t = ok
IsPtr-with_mark Moved (Far len ds m) ok t = ok
IsPtr-with_mark Dropped (Far len ds m) ok t = ok
IsPtr-with_mark Evac (Far len ds m) ok t = absurd cc
IsPtr-with_mark Dirty (Far len ds m) ok t = absurd cc

near_with_mark : (k : Mark) (len ds : ℕ) (place : Place) (m : Marks) → IsPtr (Near len ds place m) →
    bit_or (word_of (Near len ds place m)) (2 ^ position k) ≡ word_of (Near len ds place (marks_with k m))
near_with_mark Hot len ds place m ok =
    let ms = near_marks len ds place.at place.log m (omega arith) (omega arith) (omega arith) (omega arith) _ refl in
    omega (arith, or_mark _ 62 m.hot ms.3)
near_with_mark Evac len ds place m ok =
    let ms = near_marks len ds place.at place.log m (omega arith) (omega arith) (omega arith) (omega arith) _ refl in
    omega (arith, or_mark _ 61 m.evac ms.2)
near_with_mark Moved len ds place m ok =
    let ms = near_marks len ds place.at place.log m (omega arith) (omega arith) (omega arith) (omega arith) _ refl in
    omega (arith, or_mark _ 60 m.moved ms.1)
near_with_mark Dropped len ds place m ok =
    let ms = near_marks len ds place.at place.log m (omega arith) (omega arith) (omega arith) (omega arith) _ refl in
    omega (arith, or_mark _ 59 m.dropped ms.0)
near_with_mark Dirty len ds place m ok =
    let ms = near_marks len ds place.at place.log m (omega arith) (omega arith) (omega arith) (omega arith) _ refl in
    omega (arith, or_mark _ 57 m.dirty ms.4)

far_with_mark : (k : Mark) (len ds : ℕ) (m : Marks) → k ≢ Dirty → IsPtr (Far len ds m) → bit_or (word_of (Far len ds m)) (2 ^ position k) ≡ word_of (Far len ds (marks_with k m))
far_with_mark Hot len ds m ne ok =
    let ms = far_marks len ds m (omega arith) (omega arith) _ refl in
    omega (arith, or_mark _ 62 m.hot ms.3)
far_with_mark Evac len ds m ne ok =
    let ms = far_marks len ds m (omega arith) (omega arith) _ refl in
    omega (arith, or_mark _ 61 m.evac ms.2)
far_with_mark Moved len ds m ne ok =
    let ms = far_marks len ds m (omega arith) (omega arith) _ refl in
    omega (arith, or_mark _ 60 m.moved ms.1)
far_with_mark Dropped len ds m ne ok =
    let ms = far_marks len ds m (omega arith) (omega arith) _ refl in
    omega (arith, or_mark _ 59 m.dropped ms.0)
far_with_mark Dirty len ds m ne ok = absurd (ne refl)

-- the word with one bit more is the word of the pointer with that mark
pub with_mark_word : (k : Mark) (v : PtrWord) → IsPtr v → takes_mark k v ≡ true → bit_or (word_of v) (2 ^ position k) ≡ word_of (with_mark k v)
with_mark_word k Free ok t = absurd cc
with_mark_word k (Near len ds place m) ok t = near_with_mark k len ds place m ok
with_mark_word Hot (Far len ds m) ok t = far_with_mark Hot len ds m (λ e. absurd cc) ok
with_mark_word Evac (Far len ds m) ok t = absurd cc
with_mark_word Moved (Far len ds m) ok t = far_with_mark Moved len ds m (λ e. absurd cc) ok
with_mark_word Dropped (Far len ds m) ok t = far_with_mark Dropped len ds m (λ e. absurd cc) ok
with_mark_word Dirty (Far len ds m) ok t = absurd cc

-- and it is read as that pointer
pub with_mark_read : (k : Mark) (w : ℕ) (v : PtrWord) → w < 2 ^ 64 → read_of w ≡ Some v → takes_mark k v ≡ true → read_of (bit_or w (2 ^ position k)) ≡ Some (with_mark k v)
with_mark_read k w v fits e t =
    let s = read_says w v fits e in
    read_only _ (with_mark k v) (IsPtr-with_mark k v s.0 t) (sym (with_mark_word k v s.0 t) ∙ ap (λ x. bit_or x (2 ^ position k)) s.1)

pub with_mark_fits : (k : Mark) (w : ℕ) (v : PtrWord) → w < 2 ^ 64 → read_of w ≡ Some v → takes_mark k v ≡ true → bit_or w (2 ^ position k) < 2 ^ 64
with_mark_fits k w v fits e t =
    let s = read_says w v fits e in
    let same : word_of (with_mark k v) ≡ bit_or w (2 ^ position k) = sym (with_mark_word k v s.0 t) ∙ ap (λ x. bit_or x (2 ^ position k)) s.1 in
    subst (λ (x : ℕ). x < 2 ^ 64) same (word_fits (with_mark k v) (IsPtr-with_mark k v s.0 t))

-- ---- EVAC is cleared by one `&`
pub IsPtr-without_evac : (v : PtrWord) → IsPtr v → IsPtr (without_evac v)
IsPtr-without_evac Free ok = tt
IsPtr-without_evac (Near len ds place m) ok = ok
IsPtr-without_evac (Far len ds m) ok = ok

pub without_evac_word : (v : PtrWord) → IsPtr v → bit_and (word_of v) (2 ^ 64 - 1 - 2 ^ 61) ≡ word_of (without_evac v)
without_evac_word Free ok = refl
without_evac_word (Near len ds place m) ok =
    let ms = near_marks len ds place.at place.log m (omega arith) (omega arith) (omega arith) (omega arith) _ refl in
    let small : marks_number m < 2 ^ 4 = marks_small m in
    omega (arith, and_mark (word_of (Near len ds place m)) 61 m.evac (omega arith) (omega arith) ms.2)
without_evac_word (Far len ds m) ok =
    let ms = far_marks len ds m (omega arith) (omega arith) _ refl in
    let small : marks_number m < 2 ^ 4 = marks_small m in
    omega (arith, and_mark (word_of (Far len ds m)) 61 m.evac (omega arith) (omega arith) ms.2, ap bit_of ok.3)

pub without_evac_read : (w : ℕ) (v : PtrWord) → w < 2 ^ 64 → read_of w ≡ Some v → read_of (bit_and w (2 ^ 64 - 1 - 2 ^ 61)) ≡ Some (without_evac v)
without_evac_read w v fits e =
    let s = read_says w v fits e in
    read_only _ (without_evac v) (IsPtr-without_evac v s.0) (sym (without_evac_word v s.0) ∙ ap (λ x. bit_and x (2 ^ 64 - 1 - 2 ^ 61)) s.1)

-- a mark that isn't taken puts the word off the layout
far_evac : (w len ds : ℕ) (m : Marks) → len < 2 ^ 16 → 0 < len → len ≤ LONGEST → ds < 2 ^ 8 → w ≡ word_of (Far len ds (marks_with Evac m)) → read_of w ≡ None
unfolding read_of
far_evac w len ds m p some most q e =
    let f = far_fields len ds (marks_with Evac m) p q w e in
    let ms = far_marks len ds (marks_with Evac m) p q w e in
    let used : names_object w ≡ true = used_back w f.5 f.4 (omega (arith, f.0)) (omega (arith, f.0)) in
    let free : nat_eq w 0 ≡ false = grind (arith, nat_tests) in
    let top : is_set w 63 ≡ false = grind (arith, nat_tests) in
    let set : is_set w 61 ≡ true = set_from w 61 true ms.2 in
    let fit : far_fits w ≡ false = grind (arith, nat_tests) in
    rw (free, used, top, fit) refl

far_dirty : (len ds : ℕ) (m : Marks) → IsPtr (Far len ds m) → read_of (bit_or (word_of (Far len ds m)) (2 ^ 57)) ≡ None
unfolding read_of
far_dirty len ds m ok =
    let f = far_fields len ds m (omega arith) (omega arith) _ refl in
    let ms = far_marks len ds m (omega arith) (omega arith) _ refl in
    let w : ℕ = bit_or (word_of (Far len ds m)) (2 ^ 57) in
    let is : w ≡ word_of (Far len ds m) + 2 ^ 57 = omega (arith, or_mark (word_of (Far len ds m)) 57 false ms.4) in
    let used : names_object w ≡ true = used_back w (omega arith) (omega arith) (omega arith) (omega arith) in
    let free : nat_eq w 0 ≡ false = grind (arith, nat_tests) in
    let top : is_set w 63 ≡ false = set_from w 63 false (omega arith) in
    let set : is_set w 57 ≡ true = set_from w 57 true (omega arith) in
    let fit : far_fits w ≡ false = grind (arith, nat_tests) in
    rw (free, used, top, fit) refl

free_with_mark : (k : Mark) → read_of (bit_or 0 (2 ^ position k)) ≡ None
unfolding read_of
free_with_mark Hot = refl
free_with_mark Evac = refl
free_with_mark Moved = refl
free_with_mark Dropped = refl
free_with_mark Dirty = refl

pub refused_mark : (k : Mark) (v : PtrWord) → IsPtr v → takes_mark k v ≡ false → read_of (bit_or (word_of v) (2 ^ position k)) ≡ None
refused_mark k Free ok t = free_with_mark k
refused_mark Hot (Near len ds place m) ok t = absurd cc
refused_mark Evac (Near len ds place m) ok t = absurd cc
refused_mark Moved (Near len ds place m) ok t = absurd cc
refused_mark Dropped (Near len ds place m) ok t = absurd cc
refused_mark Dirty (Near len ds place m) ok t = absurd cc
refused_mark Hot (Far len ds m) ok t = absurd cc
refused_mark Moved (Far len ds m) ok t = absurd cc
refused_mark Dropped (Far len ds m) ok t = absurd cc
refused_mark Evac (Far len ds m) ok t = far_evac _ len ds m (omega arith) (omega arith) (omega arith) (omega arith) (far_with_mark Evac len ds m (λ e. absurd cc) ok)
refused_mark Dirty (Far len ds m) ok t = far_dirty len ds m ok
