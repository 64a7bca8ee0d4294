-- One object more, and one less.
use Rattle.std.proofs.Common.{◌≡◌, ◌≢◌, ℕ, ◌-◌, ◌*◌, ◌/◌, ◌%◌, ◌<◌, ◌≤◌, true, Option, Some, None, List, [], ◌∷◌, ◌++◌, length, take, drop, refl, sym, ◌∙◌, ap, subst, inl, inr, arith}
use Rattle.std.specs.Prelude.{slice_index}
use Rattle.std.proofs.lemmas.Bool.{cases_lt, cases_eq}
use Rattle.std.proofs.lemmas.List.{length_push, get_or_append_left, get_or_push, get_or-take, length-take-le}
use Rattle.std.proofs.Math.Nat.{mul-div_cancel_left, mul-mod_right, mul-le-mul_left}
use Rattle.far_objects.specs.Far.{Far, Others}
use Rattle.far_array.specs.Rows.{row, bytes_of}
use Rattle.far_array.specs.Places.{Kept, MakesBlock, Placed, Wrote}
use Rattle.far_array.proofs.Written.{place_low}

pub none_size : (n : ℕ) (o : Option ℕ) → o ≡ None → o ≡ Some n → ⊥
none_size n o e f = cc

pub then_others : (h : ℕ) (a b c : Far) → Others h a b → Others h b c → Others h a c
then_others h a b c one two = record {
  honest = two.honest ∙ one.honest;
  sizes = λ k ne. two.sizes k ne ∙ one.sizes k ne;
  bytes = λ k ne. two.bytes k ne ∙ one.bytes k ne;
}

-- where a number was free and is again, the sizes are as before
pub none_more : (f g : Far) (h : ℕ) → f.sizes h ≡ None → g.sizes h ≡ None → Others h f g → (k : ℕ) → g.sizes k ≡ f.sizes k
none_more f g h was is others k = elim (cases_eq k h) [
  | inl e ↦ ap g.sizes e ∙ is ∙ sym (ap f.sizes e ∙ was)
  | inr ne ↦ others.sizes k ne
]

-- an array has no number that there isn't
pub not_there : (f : Far) (hs : List ℕ) (per size h : ℕ) → Placed f hs per size → f.sizes h ≡ None → (j : ℕ) → j < length hs → slice_index hs j ≢ h
not_there f hs per size h placed fresh j l e = none_size (per * size) (f.sizes h) fresh (ap f.sizes (sym e) ∙ placed.held j l)

-- the objects of an array stay where a number that it hasn't is made, and where one is dropped
module _ (f g : Far) (hs : List ℕ) (per size h : ℕ) (placed : Placed f hs per size) (other : (j : ℕ) → j < length hs → slice_index hs j ≢ h) (others : Others h f g) where
  kept_placed : Placed g hs per size
  kept_placed = record {
    sized = placed.sized;
    all = placed.all;
    some = placed.some;
    fits = placed.fits;
    held = λ j l. others.sizes (slice_index hs j) (other j l) ∙ placed.held j l;
    apart = placed.apart;
  }

  kept_row : (k : ℕ) → k < per * length hs → row g hs per size k ≡ row f hs per size k
  kept_row k l = ap (λ b. take size (drop ((k % per) * size) (bytes_of b))) (others.bytes (slice_index hs (k / per)) (other (k / per) (place_low k per (length hs) placed.some l)))

  pub kept : Kept f g hs hs per size
  kept = record { honest = others.honest; placed = kept_placed; rows = kept_row }

  low_handle : (j : ℕ) → j < length hs → slice_index (hs ++ h ∷ []) j ≡ slice_index hs j
  low_handle j l = get_or_append_left hs (h ∷ []) 0 j l

  last_handle : (j : ℕ) → j ≡ length hs → slice_index (hs ++ h ∷ []) j ≡ h
  last_handle j e = get_or_push hs h 0 j (sym e)

  more_placed : g.sizes h ≡ Some (per * size) → Placed g (hs ++ h ∷ []) per size
  more_placed made = record {
    sized = placed.sized;
    all = placed.all;
    some = placed.some;
    fits = placed.fits;
    held = λ j l. elim (cases_lt j (length hs)) [
      | inl low ↦ ap g.sizes (low_handle j low) ∙ others.sizes (slice_index hs j) (other j low) ∙ placed.held j low
      | inr past ↦ ap g.sizes (last_handle j (omega (arith, l, length_push hs h))) ∙ made
    ];
    apart = λ j k l m same. elim (cases_lt j (length hs)) [
      | inl low ↦ elim (cases_lt k (length hs)) [
        | inl less ↦ placed.apart j k low less (sym (low_handle j low) ∙ same ∙ low_handle k less)
        | inr past ↦ absurd (other j low (sym (low_handle j low) ∙ same ∙ last_handle k (omega (arith, m, length_push hs h))))
      ]
      | inr past ↦ elim (cases_lt k (length hs)) [
        | inl less ↦ absurd (other k less (sym (low_handle k less) ∙ sym same ∙ last_handle j (omega (arith, l, length_push hs h))))
        | inr over ↦ omega (arith, l, m, length_push hs h)
      ]
    ];
  }

  more_row : (k : ℕ) → k < per * length hs → row g (hs ++ h ∷ []) per size k ≡ row f hs per size k
  more_row k l = ap (λ x. take size (drop ((k % per) * size) (bytes_of (g.bytes x)))) (low_handle (k / per) (place_low k per (length hs) placed.some l)) ∙ kept_row k l

module _ (f g : Far) (hs : List ℕ) (per size h : ℕ) (bytes : List ℕ) (placed : Placed f hs per size) (long : length bytes ≡ size) (made : MakesBlock h (per * size) bytes f g) where
  away : (j : ℕ) → j < length hs → slice_index hs j ≢ h
  away = not_there f hs per size h placed made.makes.fresh

  size_of_it : g.sizes h ≡ Some (per * size)
  size_of_it = made.makes.size ∙ ap (λ n. Some n) made.long

  first : f.honest ≡ true → row g (hs ++ h ∷ []) per size (per * length hs) ≡ bytes
  first o =
      ap (λ j. take size (drop (((per * length hs) % per) * size) (bytes_of (g.bytes (slice_index (hs ++ h ∷ []) j))))) (mul-div_cancel_left (length hs) {n = per} placed.some)
      ∙ ap (λ j. take size (drop (j * size) (bytes_of (g.bytes (slice_index (hs ++ h ∷ []) (length hs)))))) (mul-mod_right per (length hs))
      ∙ ap (λ x. take size (drop (0 * size) (bytes_of (g.bytes x)))) (last_handle f g hs per size h placed away made.makes.others (length hs) refl)
      ∙ ap (λ b. take size (drop (0 * size) (bytes_of b))) (made.makes.bytes o)
      ∙ front size
    where
      no_times : (n : ℕ) → 0 * n ≡ 0
      no_times n = omega arith

      front : (n : ℕ) → take size (drop (0 * n) made.all) ≡ bytes
      front n = ap (λ k. take size (drop k made.all)) (no_times n) ∙ ap (λ k. take k made.all) (sym long) ∙ made.begins

  pub wrote_block : Wrote (per * length hs) bytes f g hs (hs ++ h ∷ []) per size
  wrote_block = record {
    honest = made.makes.others.honest;
    placed = more_placed f g hs per size h placed away made.makes.others size_of_it;
    itself = first;
    others = λ o k ne l. more_row f g hs per size h placed away made.makes.others k l;
  }

-- ---- fewer
module _ (f g : Far) (hs : List ℕ) (per size : ℕ) (placed : Placed f hs per size) (some : 0 < length hs) (others : Others (slice_index hs (length hs - 1)) f g) where
  fewer_long : length (take (length hs - 1) hs) ≡ length hs - 1
  fewer_long = length-take-le (length hs - 1) hs (omega arith)

  at_fewer : (j : ℕ) → j < length hs - 1 → slice_index (take (length hs - 1) hs) j ≡ slice_index hs j
  at_fewer j l = get_or-take (length hs - 1) hs j 0 l

  not_last : (j : ℕ) → j < length hs - 1 → slice_index hs j ≢ slice_index hs (length hs - 1)
  not_last j l e = let same : j ≡ length hs - 1 = placed.apart j (length hs - 1) (omega arith) (omega arith) e in omega (arith, l, same)

  fewer_placed : Placed g (take (length hs - 1) hs) per size
  fewer_placed = record {
    sized = placed.sized;
    all = placed.all;
    some = placed.some;
    fits = placed.fits;
    held = λ j l.
        let low : j < length hs - 1 = omega (arith, l, fewer_long) in
        ap g.sizes (at_fewer j low) ∙ others.sizes (slice_index hs j) (not_last j low) ∙ placed.held j (omega (arith, low));
    apart = λ j k l m same.
        let low : j < length hs - 1 = omega (arith, l, fewer_long) in
        let less : k < length hs - 1 = omega (arith, m, fewer_long) in
        placed.apart j k (omega (arith, low)) (omega (arith, less)) (sym (at_fewer j low) ∙ same ∙ at_fewer k less);
  }

  fewer_row : (k : ℕ) → k < per * length (take (length hs - 1) hs) → row g (take (length hs - 1) hs) per size k ≡ row f hs per size k
  fewer_row k l =
      let low : k / per < length hs - 1 = omega (arith, place_low k per (length (take (length hs - 1) hs)) placed.some l, fewer_long) in
      ap (λ x. take size (drop ((k % per) * size) (bytes_of (g.bytes x)))) (at_fewer (k / per) low)
      ∙ ap (λ b. take size (drop ((k % per) * size) (bytes_of b))) (others.bytes (slice_index hs (k / per)) (not_last (k / per) low))

  pub kept_fewer : Kept f g hs (take (length hs - 1) hs) per size
  kept_fewer = record { honest = others.honest; placed = fewer_placed; rows = fewer_row }

pub kept_all : (f : Far) (hs gs : List ℕ) (per size : ℕ) → Placed f hs per size → gs ≡ hs → Kept f f hs gs per size
kept_all f hs gs per size placed e = subst (λ xs. Kept f f hs xs per size) (sym e) (record { honest = refl; placed = placed; rows = λ k l. refl })

pub then_kept : (f g h : Far) (hs gs ks : List ℕ) (per size : ℕ) → length ks ≤ length gs → Kept f g hs gs per size → Kept g h gs ks per size → Kept f h hs ks per size
then_kept f g h hs gs ks per size less one two = record {
  honest = two.honest ∙ one.honest;
  placed = two.placed;
  rows = λ k l. two.rows k l ∙ one.rows k (let m : per * length ks ≤ per * length gs = mul-le-mul_left per less in omega (arith, l, m));
}
