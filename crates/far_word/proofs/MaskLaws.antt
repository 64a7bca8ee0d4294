-- What one mask operation on a pointer's word says.
use Rattle.std.proofs.Common.{◌≡◌, ℕ, ◌+◌, ◌*◌, ◌%◌, ◌^◌, ◌<◌, Bool, true, false, cond, nat_eq, sym, ◌∙◌, ap, refl, arith, Some, None, bit_and, is_some}
use Rattle.std.proofs.lemmas.Nat.{and_block, and_mask, and-not, and_comm}
use Rattle.std.proofs.lemmas.Bool.{ne_eqb}
use Rattle.std.specs.Prelude.{◌||◌, ◌≢◌}
use Rattle.far_word.specs.Mark.{bit_of, marks_number}
use Rattle.far_word.specs.Laws.{ViewsRest}
use Rattle.far_word.specs.Pointer.{IsPtr, word_of, view_place, with_mark, without_owner_marks}
use Rattle.far_word.specs.declared.mark.Mark.{Mark}
use Rattle.far_word.specs.declared.mark.Mark.TheVariants.{Hot, Evac, Moved, Dropped, Dirty}
use Rattle.far_word.specs.declared.mark.Marks.{Marks}
use Rattle.far_word.specs.declared.pointer.Place.{Place}
use Rattle.far_word.specs.declared.pointer.PtrWord.{PtrWord}
use Rattle.far_word.specs.declared.pointer.PtrWord.TheVariants.{Free, Near, Far}
use Rattle.far_word.proofs.PointerLaws.{marks_small, word_fits}
use Rattle.far_word.proofs.Words.{bit_small}

and_none : (low : ℕ) → bit_and low 0 ≡ 0
and_none low = and_comm low 0

-- a mask of high bits sees the high bits alone
high_and : (high mask low : ℕ) → low < 2 ^ 59 → bit_and (high * 2 ^ 59 + low) (mask * 2 ^ 59 + 0) ≡ bit_and high mask * 2 ^ 59
high_and high mask low small = omega (arith, and_block 59 high mask low 0 small (omega arith), and_none low)

-- ---- PRESENT, EVAC, MOVE and DROP of a word by one `&`
rest_bits : (p m : ℕ) → m < 16 → bit_and (p * 2 ^ 4 + m) 23 ≡ p % 2 * 16 + m % 8
rest_bits p m small = omega (arith, and_block 4 p 1 m 7 small (omega arith), and_mask p 1, and_mask m 3)

near_rest : (len ds : ℕ) (pl : Place) (m : Marks) → IsPtr (Near len ds pl m) →
    bit_and (word_of (Near len ds pl m)) 0xb800_0000_0000_0000 ≡ (16 + (bit_of m.dropped + bit_of m.moved * 2 + bit_of m.evac * 4)) * 2 ^ 59
near_rest len ds pl m ok =
    let low : ℕ = len + ds * 2 ^ 16 + pl.at * 2 ^ 24 + pl.log * 2 ^ 34 + bit_of m.dirty * 2 ^ 57 + 2 ^ 58 in
    let y : bit_of m.dirty < 2 = bit_small m.dirty in
    let below : low < 2 ^ 59 = omega arith in
    let small : marks_number m < 16 = marks_small m in
    let split : word_of (Near len ds pl m) ≡ (1 * 2 ^ 4 + marks_number m) * 2 ^ 59 + low = omega arith in
    let bits : bit_and (1 * 2 ^ 4 + marks_number m) 23 ≡ 16 + (bit_of m.dropped + bit_of m.moved * 2 + bit_of m.evac * 4) =
    omega (arith, rest_bits 1 (marks_number m) small, bit_small m.dropped, bit_small m.moved, bit_small m.evac) in
    ap (λ w. bit_and w 0xb800_0000_0000_0000) split ∙ high_and (1 * 2 ^ 4 + marks_number m) 23 low below ∙ ap (λ x. x * 2 ^ 59) bits

far_rest : (len ds : ℕ) (m : Marks) → IsPtr (Far len ds m) → bit_and (word_of (Far len ds m)) 0xb800_0000_0000_0000 ≡ (marks_number m % 8) * 2 ^ 59
far_rest len ds m ok =
    let low : ℕ = len + ds * 2 ^ 16 + 2 ^ 58 in
    let y : bit_of m.dirty < 2 = bit_small m.dirty in
    let below : low < 2 ^ 59 = omega arith in
    let small : marks_number m < 16 = marks_small m in
    let split : word_of (Far len ds m) ≡ (0 * 2 ^ 4 + marks_number m) * 2 ^ 59 + low = omega arith in
    let bits : bit_and (0 * 2 ^ 4 + marks_number m) 23 ≡ marks_number m % 8 = omega (arith, rest_bits 0 (marks_number m) small) in
    ap (λ w. bit_and w 0xb800_0000_0000_0000) split ∙ high_and (0 * 2 ^ 4 + marks_number m) 23 low below ∙ ap (λ x. x * 2 ^ 59) bits

near_test : (e v d : Bool) (pl : Place) → nat_eq ((16 + (bit_of d + bit_of v * 2 + bit_of e * 4)) * 2 ^ 59) 0x8000_0000_0000_0000 ≡ is_some (cond (e || v || d) None (Some pl))
near_test true true true pl = refl
near_test true true false pl = refl
near_test true false true pl = refl
near_test true false false pl = refl
near_test false true true pl = refl
near_test false true false pl = refl
near_test false false true pl = refl
near_test false false false pl = refl

-- exactly where a view may rest, PRESENT is all that the mask lets through
pub rests_word : (v : PtrWord) → IsPtr v → nat_eq (bit_and (word_of v) 0xb800_0000_0000_0000) 0x8000_0000_0000_0000 ≡ is_some (view_place v)
rests_word Free ok = refl
rests_word (Near len ds pl m) ok = ap (λ x. nat_eq x 0x8000_0000_0000_0000) (near_rest len ds pl m ok) ∙ near_test m.evac m.moved m.dropped pl
rests_word (Far len ds m) ok =
    let other : bit_and (word_of (Far len ds m)) 0xb800_0000_0000_0000 ≢ 0x8000_0000_0000_0000 = (λ e. absurd (omega (arith, far_rest len ds m ok))) in
    ne_eqb _ _ other

-- the same, of a word that is known to be the pointer's
pub rests : (w : ℕ) (v : PtrWord) → IsPtr v → word_of v ≡ w → nat_eq (bit_and w 0xb800_0000_0000_0000) 0x8000_0000_0000_0000 ≡ is_some (view_place v)
rests w v ok e = ap (λ x. nat_eq (bit_and x 0xb800_0000_0000_0000) 0x8000_0000_0000_0000) (sym e) ∙ rests_word v ok

-- ---- HOT, MOVE and DROP taken away by one `&`
owner_bits : (high evac low : ℕ) → evac < 2 → low < 4 → bit_and ((high * 2 ^ 1 + evac) * 2 ^ 2 + low) 11 ≡ high % 2 * 8 + low
owner_bits high evac low one small = omega (arith, and_block 2 (high * 2 ^ 1 + evac) 2 low 3 small (omega arith), and_mask low 2, and_block 1 high 1 evac 0 one (omega arith), and_mask high 1, and_none evac)

-- p is PRESENT
owner_and : (p : ℕ) (m : Marks) (low : ℕ) → low < 2 ^ 59 →
    bit_and ((p * 16 + marks_number m) * 2 ^ 59 + low) 0x5800_0000_0000_0000 ≡ (bit_of m.dropped + bit_of m.moved * 2 + bit_of m.hot * 8) * 2 ^ 59
owner_and p m low below =
    let same : p * 16 + marks_number m ≡ ((p * 2 + bit_of m.hot) * 2 ^ 1 + bit_of m.evac) * 2 ^ 2 + (bit_of m.dropped + bit_of m.moved * 2) = omega arith in
    let two : bit_of m.dropped + bit_of m.moved * 2 < 4 = omega (arith, bit_small m.dropped, bit_small m.moved) in
    let bits : bit_and (p * 16 + marks_number m) 11 ≡ bit_of m.dropped + bit_of m.moved * 2 + bit_of m.hot * 8 =
    ap (λ x. bit_and x 11) same ∙ owner_bits (p * 2 + bit_of m.hot) (bit_of m.evac) (bit_of m.dropped + bit_of m.moved * 2) (bit_small m.evac) two
    ∙ omega (arith, bit_small m.hot) in
    high_and (p * 16 + marks_number m) 11 low below ∙ ap (λ x. x * 2 ^ 59) bits

without_owner_marks_and : (w : ℕ) → w < 2 ^ 64 → bit_and w 0xa7ff_ffff_ffff_ffff + bit_and w 0x5800_0000_0000_0000 ≡ w
without_owner_marks_and w fits = omega (arith, and-not 64 0x5800_0000_0000_0000 w (omega arith) fits, and_comm w 0xa7ff_ffff_ffff_ffff, and_comm w 0x5800_0000_0000_0000)

pub without_owner_marks_word : (v : PtrWord) → IsPtr v → bit_and (word_of v) 0xa7ff_ffff_ffff_ffff ≡ word_of (without_owner_marks v)
without_owner_marks_word Free ok = refl
without_owner_marks_word (Near len ds pl m) ok =
    let low : ℕ = len + ds * 2 ^ 16 + pl.at * 2 ^ 24 + pl.log * 2 ^ 34 + bit_of m.dirty * 2 ^ 57 + 2 ^ 58 in
    let y : bit_of m.dirty < 2 = bit_small m.dirty in
    let below : low < 2 ^ 59 = omega arith in
    let split : word_of (Near len ds pl m) ≡ (1 * 16 + marks_number m) * 2 ^ 59 + low = omega arith in
    let taken = ap (λ w. bit_and w 0x5800_0000_0000_0000) split ∙ owner_and 1 m low below in
    omega (arith, without_owner_marks_and (word_of (Near len ds pl m)) (word_fits (Near len ds pl m) ok), taken)
without_owner_marks_word (Far len ds m) ok =
    let low : ℕ = len + ds * 2 ^ 16 + 2 ^ 58 in
    let y : bit_of m.dirty < 2 = bit_small m.dirty in
    let below : low < 2 ^ 59 = omega arith in
    let split : word_of (Far len ds m) ≡ (0 * 16 + marks_number m) * 2 ^ 59 + low = omega arith in
    let taken = ap (λ w. bit_and w 0x5800_0000_0000_0000) split ∙ owner_and 0 m low below in
    omega (arith, without_owner_marks_and (word_of (Far len ds m)) (word_fits (Far len ds m) ok), taken)

-- the same, of a word that is known to be the pointer's
pub without_owner_marks_read : (w : ℕ) (v : PtrWord) → IsPtr v → word_of v ≡ w → bit_and w 0xa7ff_ffff_ffff_ffff ≡ word_of (without_owner_marks v)
without_owner_marks_read w v ok e = ap (λ x. bit_and x 0xa7ff_ffff_ffff_ffff) (sym e) ∙ without_owner_marks_word v ok

pub IsPtr-without_owner_marks : (v : PtrWord) → IsPtr v → IsPtr (without_owner_marks v)
IsPtr-without_owner_marks Free ok = tt
IsPtr-without_owner_marks (Near len ds pl m) ok = ok
IsPtr-without_owner_marks (Far len ds m) ok = ok

-- ---- where a view may rest
moved_test : (e d : Bool) (pl : Place) → cond (e || true || d) None (Some pl) ≡ None
moved_test true d pl = refl
moved_test false d pl = refl

dropped_test : (e v : Bool) (pl : Place) → cond (e || v || true) None (Some pl) ≡ None
dropped_test true v pl = refl
dropped_test false true pl = refl
dropped_test false false pl = refl

view_place-with_mark : (k : Mark) (v : PtrWord) → k ≢ Hot → k ≢ Dirty → view_place (with_mark k v) ≡ None
view_place-with_mark k Free ne nd = refl
view_place-with_mark k (Far len ds m) ne nd = refl
view_place-with_mark Hot (Near len ds pl m) ne nd = absurd (ne refl)
view_place-with_mark Dirty (Near len ds pl m) ne nd = absurd (nd refl)
view_place-with_mark Evac (Near len ds pl m) ne nd = refl
view_place-with_mark Moved (Near len ds pl m) ne nd = moved_test m.evac m.dropped pl
view_place-with_mark Dropped (Near len ds pl m) ne nd = dropped_test m.evac m.moved pl

pub views_rest : ViewsRest
views_rest = record { near = λ len ds pl hot dirty. refl; marked = view_place-with_mark; far = λ len ds m. refl; free = refl }
