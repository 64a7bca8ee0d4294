-- Lines by place, and slots that have places.
use Rattle.std.proofs.Common.{◌≡◌, ℕ, zero, suc, ◌<◌, true, Option, Some, None, List, [], ◌∷◌, ◌++◌, length, slice_get, inl, inr, refl, sym, ◌∙◌, ap, arith}
use Rattle.std.proofs.lemmas.Bool.{cases_lt}
use Rattle.std.proofs.lemmas.List.{length-append}
use Rattle.std.proofs.lemmas.Option.{slice_get_past}
use Rattle.far_objects.specs.Far.{Far}
use Rattle.far_index.specs.declared.slot.Slot.{Slot}
use Rattle.far_index.specs.declared.slot.Slot.TheVariants.{Full}
use Rattle.far_index.specs.Slots.{slot_at}
use Rattle.far_index.specs.Grown.{Placed}
use Rattle.far_index.proofs.Words.{full_number}
use Rattle.far_seen.specs.Listed.{Listed, by_place, of_number}
use Rattle.far_seen.specs.Parts.{Plain, Sound, line_in}
use Rattle.far_seen.specs.Stored.{Keeps, Put}

none_some : {A : Type 0} (a : A) → ◌≡◌ {A = Option A} None (Some a) → ⊥
none_some a e = cc

-- ---- numbers in a list
pub get_left : (xs ys : List ℕ) (i n : ℕ) → slice_get xs i ≡ Some n → slice_get (xs ++ ys) i ≡ Some n
get_left [] ys i n e = absurd (none_some n e)
get_left (x ∷ xs) ys zero n e = e
get_left (x ∷ xs) ys (suc i) n e = get_left xs ys i n e

pub get_last : (xs : List ℕ) (n : ℕ) → slice_get (xs ++ n ∷ []) (length xs) ≡ Some n
get_last [] n = refl
get_last (x ∷ xs) n = get_last xs n

-- a place with a number is one of the list's
pub place_within : {A : Type 0} (f : ℕ → Option A) (numbers : List ℕ) (k : ℕ) (a : A) → of_number f (slice_get numbers k) ≡ Some a → k < length numbers
place_within f [] k a e = absurd (none_some a e)
place_within f (n ∷ ns) zero a e = omega arith
place_within f (n ∷ ns) (suc k) a e = omega (arith, place_within f ns k a e)

-- ---- what is kept
size_kept : (old new : Far) (numbers more : List ℕ) → Keeps old new → ((i n : ℕ) → slice_get numbers i ≡ Some n → slice_get more i ≡ Some n) →
    (k n : ℕ) (o : Option ℕ) → slice_get numbers k ≡ o → of_number old.sizes o ≡ Some n → of_number new.sizes (slice_get more k) ≡ Some n
size_kept old new numbers more keeps has k n None e f = absurd (none_some n f)
size_kept old new numbers more keeps has k n (Some m) e f = ap (of_number new.sizes) (has k m e) ∙ keeps.sizes m n f

bytes_kept : (old new : Far) (numbers more : List ℕ) → Keeps old new → ((i n : ℕ) → slice_get numbers i ≡ Some n → slice_get more i ≡ Some n) →
    (k n : ℕ) (o : Option ℕ) → slice_get numbers k ≡ o → of_number old.sizes o ≡ Some n → of_number new.bytes (slice_get more k) ≡ of_number old.bytes o
bytes_kept old new numbers more keeps has k n None e f = absurd (none_some n f)
bytes_kept old new numbers more keeps has k n (Some m) e f = ap (of_number new.bytes) (has k m e) ∙ keeps.bytes m n f

pub places_kept : (old new : Far) (numbers more : List ℕ) → Keeps old new → ((i n : ℕ) → slice_get numbers i ≡ Some n → slice_get more i ≡ Some n) → Keeps (by_place old numbers) (by_place new more)
places_kept old new numbers more keeps has = record {
  honest = keeps.honest;
  sizes = λ k n e. size_kept old new numbers more keeps has k n (slice_get numbers k) refl e;
  bytes = λ k n e. bytes_kept old new numbers more keeps has k n (slice_get numbers k) refl e;
}

-- the same numbers
pub places_same : (old new : Far) (numbers more : List ℕ) → Keeps old new → more ≡ numbers → Keeps (by_place old numbers) (by_place new more)
places_same old new numbers more keeps same = places_kept old new numbers more keeps (λ i n e. ap (λ (ns : List ℕ). slice_get ns i) same ∙ e)

-- a line is put, and its number comes last
pub put_last : (old new : Far) (numbers : List ℕ) (h : ℕ) (line : List ℕ) → Put h line old new → Put (length numbers) line (by_place old numbers) (by_place new (numbers ++ h ∷ []))
put_last old new numbers h line put = record {
  fresh = ap (of_number old.sizes) (slice_get_past numbers (length numbers) (omega arith));
  size = ap (of_number new.sizes) (get_last numbers h) ∙ put.size;
  bytes = λ o. ap (of_number new.bytes) (get_last numbers h) ∙ put.bytes o;
  keeps = places_kept old new numbers (numbers ++ h ∷ []) put.keeps (get_left numbers (h ∷ []));
}

-- ---- slots of places
pub listed_kept : (ss ts : List Slot) (numbers counts : List ℕ) → Listed ss numbers counts → ((j t k : ℕ) → slot_at ss j ≡ Full t k → (i : ℕ) × (slot_at ts i ≡ Full t k)) → Listed ts numbers counts
listed_kept ss ts numbers counts listed kept = record {
  each = λ k h. let s = listed.each k h in let there = kept s.0 s.1 k s.2 in (there.0, s.1, there.1);
  long = listed.long;
}

pub listed_more : (buckets tag h : ℕ) (ss ts : List Slot) (numbers counts : List ℕ) → Listed ss numbers counts → Placed buckets tag (length numbers) ss ts → Listed ts (numbers ++ h ∷ []) (counts ++ 1 ∷ [])
listed_more buckets tag h ss ts numbers counts listed placed = record {
  each = λ k l. elim (cases_lt k (length numbers)) [
    | inl low ↦
        let s = listed.each k low in (
          s.0,
          s.1,
          placed.others s.0 (λ e. placed.free s.1 k (sym (ap (slot_at ss) e) ∙ s.2)) ∙ s.2,
        )
    | inr high ↦
        let e : length numbers ≡ k = omega (arith, l, high, length-append numbers (h ∷ [])) in
        (placed.place, tag, placed.slot ∙ ap (Full tag) e)
  ];
  long = omega (arith, listed.long, length-append counts (1 ∷ []), length-append numbers (h ∷ []));
}

-- ---- lines of places
module _ (p : Plain) (numbers counts : List ℕ) (sound : Sound p) (listed : Listed p.slots numbers counts) where
  -- some slot has a place's line
  pub has_line : (k : ℕ) (line : List ℕ) → k < length numbers → p.far.bytes k ≡ Some line → (i : ℕ) × (line_in p.far.bytes (slot_at p.slots i) ≡ Some line)
  has_line k line h e = let s = listed.each k h in (s.0, ap (line_in p.far.bytes) s.2 ∙ e)

  -- each place has an object
  pub has_size : (k : ℕ) → k < length numbers → (n : ℕ) × (p.far.sizes k ≡ Some n)
  has_size k h = let s = listed.each k h in sound.held s.0 s.1 k s.2

  -- no line has two places
  pub one_place : p.far.honest ≡ true → (k q : ℕ) (line : List ℕ) → k < length numbers → q < length numbers → p.far.bytes k ≡ Some line → p.far.bytes q ≡ Some line → k ≡ q
  one_place o k q line h l e f =
      let s = listed.each k h in
      let t = listed.each q l in
      let same : s.0 ≡ t.0 = sound.distinct o s.0 t.0 line (ap (line_in p.far.bytes) s.2 ∙ e) (ap (line_in p.far.bytes) t.2 ∙ f) in
      full_number s.1 k t.1 q (sym s.2 ∙ ap (slot_at p.slots) same ∙ t.2)
