-- USED, DROP and PRESENT of a pointer's word say whether it names an object, and a near one.
use Rattle.std.proofs.Common.{◌≡◌, ℕ, ◌+◌, ◌*◌, ◌/◌, ◌<◌, ◌^◌, Bool, true, false, not, sym, refl, arith, nat_eq, Some}
use mir.Val.{bool_byte}
use Rattle.far_word.specs.Counts.{names_kept, names_near}
use Rattle.far_word.specs.Mark.{field, bit_of}
use Rattle.far_word.specs.Pointer.{IsPtr, word_of, read_of}
use Rattle.far_word.specs.declared.mark.Marks.{Marks}
use Rattle.far_word.specs.declared.pointer.Place.{Place}
use Rattle.far_word.specs.declared.pointer.PtrWord.{PtrWord}
use Rattle.far_word.specs.declared.pointer.PtrWord.TheVariants.{Free, Near, Far}
use Rattle.far_word.proofs.PointerLaws.{marks_small, read_says}
use Rattle.far_word.proofs.Words.{bit_small}

dropped_bit : (d : Bool) → bool_byte (nat_eq (1 + 2 * bit_of d) 1) ≡ bit_of (not d)
dropped_bit true = refl
dropped_bit false = refl

near_low : (w len ds : ℕ) (place : Place) (m : Marks) → IsPtr (Near len ds place m) → word_of (Near len ds place m) ≡ w → field w 58 2 ≡ 1 + 2 * bit_of m.dropped
near_low w len ds place m ok e = omega (arith, marks_small m, bit_small m.dirty, bit_small m.dropped, bit_small m.moved, bit_small m.evac, bit_small m.hot)

far_low : (w len ds : ℕ) (m : Marks) → IsPtr (Far len ds m) → word_of (Far len ds m) ≡ w → field w 58 2 ≡ 1 + 2 * bit_of m.dropped
far_low w len ds m ok e = omega (arith, marks_small m, bit_small m.dirty, bit_small m.dropped, bit_small m.moved, bit_small m.evac, bit_small m.hot)

kept_said : (w : ℕ) (v : PtrWord) → IsPtr v → word_of v ≡ w → bool_byte (nat_eq (field w 58 2) 1) ≡ bit_of (names_kept v)
kept_said w Free ok e = rw (sym e) refl
kept_said w (Near len ds place m) ok e = rw (near_low w len ds place m ok e) (dropped_bit m.dropped)
kept_said w (Far len ds m) ok e = rw (far_low w len ds m ok e) (dropped_bit m.dropped)

near_said : (w : ℕ) (v : PtrWord) → IsPtr v → word_of v ≡ w → bit_of (names_kept v) * (w / 2 ^ 63) ≡ bit_of (names_near v)
near_said w Free ok e = rw (sym e) refl
near_said w (Near len ds place m) ok e = let top : w / 2 ^ 63 ≡ 1 = omega (arith, marks_small m, bit_small m.dirty) in rw top (omega arith)
near_said w (Far len ds m) ok e = let top : w / 2 ^ 63 ≡ 0 = omega (arith, marks_small m) in rw top (omega arith)

pub kept_read : (w : ℕ) (v : PtrWord) → w < 2 ^ 64 → read_of w ≡ Some v → bool_byte (nat_eq (field w 58 2) 1) ≡ bit_of (names_kept v)
kept_read w v fits e = let h = read_says w v fits e in kept_said w v h.0 h.1

pub near_read : (w : ℕ) (v : PtrWord) → w < 2 ^ 64 → read_of w ≡ Some v → bit_of (names_kept v) * (w / 2 ^ 63) ≡ bit_of (names_near v)
near_read w v fits e = let h = read_says w v fits e in near_said w v h.0 h.1
