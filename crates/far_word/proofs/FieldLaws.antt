-- What one field of a pointer's word says, without the others.
use Rattle.std.proofs.Common.{◌≡◌, ℕ, ◌<◌, ◌^◌, Bool, true, false, cond, sym, refl, arith, Option, Some, None, is_some}
use Rattle.std.proofs.lemmas.Bool.{true≢false}
use Rattle.far_word.specs.Mark.{field}
use Rattle.far_word.specs.Pointer.{IsPtr, word_of, read_of, pointer_len, view_place}
use Rattle.far_word.specs.declared.pointer.Place.{Place}
use Rattle.far_word.specs.declared.pointer.PtrWord.{PtrWord}
use Rattle.far_word.specs.declared.pointer.PtrWord.TheVariants.{Free, Near, Far}
use Rattle.far_word.proofs.PointerLaws.{near_fields, far_fields, read_says}

len_said : (w : ℕ) (v : PtrWord) → IsPtr v → word_of v ≡ w → field w 0 16 ≡ pointer_len v
len_said w Free ok e = omega arith
len_said w (Near len ds place m) ok e = (near_fields len ds place.at place.log m (omega arith) (omega arith) (omega arith) (omega arith) w (sym e)).0
len_said w (Far len ds m) ok e = (far_fields len ds m (omega arith) (omega arith) w (sym e)).0

pub len_read : (w : ℕ) (v : PtrWord) → w < 2 ^ 64 → read_of w ≡ Some v → field w 0 16 ≡ pointer_len v
len_read w v fits e = let h = read_says w v fits e in len_said w v h.0 h.1

abbrev placed_at : ℕ → ℕ → Option Place
placed_at log at = Some record { log = log; at = at }

chosen : (keeps : Bool) (place : Place) → is_some (cond keeps None (Some place)) ≡ true → Some place ≡ cond keeps None (Some place)
chosen true place h = absurd (true≢false (sym h))
chosen false place h = refl

none_there : (o : Option Place) → is_some o ≡ false → None ≡ o
none_there None h = refl
none_there (Some place) h = absurd (true≢false h)

place_said : (w : ℕ) (v : PtrWord) → IsPtr v → word_of v ≡ w → is_some (view_place v) ≡ true → placed_at (field w 34 8) (field w 24 10) ≡ view_place v
place_said w Free ok e h = absurd (true≢false (sym h))
place_said w (Near len ds place m) ok e h =
    let f = near_fields len ds place.at place.log m (omega arith) (omega arith) (omega arith) (omega arith) w (sym e) in
    rw (f.3, f.2) (chosen _ place h)
place_said w (Far len ds m) ok e h = absurd (true≢false (sym h))

-- where the test of a view fails, no view may rest; where it holds, two fields say where
pub place_missing : (w : ℕ) (v : PtrWord) → w < 2 ^ 64 → read_of w ≡ Some v → ((u : PtrWord) → IsPtr u → word_of u ≡ w → false ≡ is_some (view_place u)) → None ≡ view_place v
place_missing w v fits e h = let x = read_says w v fits e in none_there (view_place v) (sym (h v x.0 x.1))

pub place_read : (w : ℕ) (v : PtrWord) → w < 2 ^ 64 → read_of w ≡ Some v → ((u : PtrWord) → IsPtr u → word_of u ≡ w → true ≡ is_some (view_place u)) → placed_at (field w 34 8) (field w 24 10) ≡ view_place v
place_read w v fits e h = let x = read_says w v fits e in place_said w v x.0 x.1 (sym (h v x.0 x.1))
