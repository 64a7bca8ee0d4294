-- The stamps of places: one slot has each.
use Rattle.std.proofs.Common.{◌≡◌, ℕ, zero, suc, ◌<◌, ◌==◌, Bool, true, false, cond, Option, Some, None, List, [], ◌∷◌, ◌++◌, length, slice_get, refl, sym, ◌∙◌, ap, arith}
use Rattle.std.specs.Option.{option_to_list}
use Rattle.std.proofs.lemmas.Bool.Decides.{Decides-eqb}
use Rattle.far_index.specs.declared.slot.Slot.{Slot}
use Rattle.far_index.specs.declared.slot.Slot.TheVariants.{Empty, Gone, Full}
use Rattle.far_index.specs.Slots.{slot_at}
use Rattle.far_seen.specs.Listed.{Listed, stamp_for, stamp_if}
use Rattle.far_seen.specs.Parts.{Plain, Sound, all_in, stamp_at}

none_some : (q : List ℕ) → ◌≡◌ {A = Option (List ℕ)} None (Some q) → ⊥
none_some q e = cc

-- ---- what one slot alone says
past : (o : Option (List ℕ)) (xs : List (List ℕ)) → ((y : List ℕ) → o ≡ Some y → ⊥) → slice_get (option_to_list o ++ xs) 0 ≡ slice_get xs 0
past None xs none = refl
past (Some y) xs none = absurd (none y refl)

only_one : (f : Slot → Option (List ℕ)) → f Empty ≡ None → (ss : List Slot) (j : ℕ) (x : List ℕ) → f (slot_at ss j) ≡ Some x → ((i : ℕ) (y : List ℕ) → f (slot_at ss i) ≡ Some y → i ≡ j) → slice_get (all_in f ss) 0 ≡ Some x
only_one f none [] j x e one = absurd (none_some x (sym none ∙ e))
only_one f none (s ∷ ss) zero x e one = ap (λ o. slice_get (option_to_list o ++ all_in f ss) 0) e
only_one f none (s ∷ ss) (suc j) x e one =
    past (f s) (all_in f ss) (λ y here. absurd (omega (arith, one zero y here)))
    ∙ only_one f none ss j x e (λ i y there. omega (arith, one (suc i) y there))

-- ---- a slot that has a place
some_if : (b : Bool) (o : Option (List ℕ)) (q : List ℕ) → cond b o None ≡ Some q → b ≡ true
some_if true o q e = refl
some_if false o q e = absurd (none_some q e)

has_place : (sizes : ℕ → Option ℕ) (k : ℕ) (s : Slot) (q : List ℕ) → stamp_if sizes k s ≡ Some q → (t : ℕ) × (s ≡ Full t k)
has_place sizes k Empty q e = absurd (none_some q e)
has_place sizes k Gone q e = absurd (none_some q e)
has_place sizes k (Full t h) q e = (t, ap (Full t) ((Decides-eqb h k).0 (some_if (h == k) (stamp_at t (sizes h)) q e)))

at_place : (sizes : ℕ → Option ℕ) (k t n : ℕ) → sizes k ≡ Some n → stamp_if sizes k (Full t k) ≡ Some (t ∷ n ∷ [])
at_place sizes k t n e = ap (λ b. cond b (stamp_at t (sizes k)) None) ((Decides-eqb k k).1 refl) ∙ ap (stamp_at t) e

pub place_is : (p : Plain) → Sound p → (j t k n : ℕ) → slot_at p.slots j ≡ Full t k → p.far.sizes k ≡ Some n → stamp_for p.far.sizes p.slots k ≡ Some (t ∷ n ∷ [])
place_is p sound j t k n slot size =
    only_one (stamp_if p.far.sizes k) refl p.slots j (t ∷ n ∷ []) (ap (stamp_if p.far.sizes k) slot ∙ at_place p.far.sizes k t n size)
    (λ i y e. let there = has_place p.far.sizes k (slot_at p.slots i) y e in sound.apart i j there.0 t k there.1 slot)

-- ---- slots and objects that are kept keep the stamps of places
pub stamps_kept : (p q : Plain) (numbers counts : List ℕ) → Sound p → Sound q → Listed p.slots numbers counts → ((k n : ℕ) → p.far.sizes k ≡ Some n → q.far.sizes k ≡ Some n) →
    ((j t k : ℕ) → slot_at p.slots j ≡ Full t k → (i : ℕ) × (slot_at q.slots i ≡ Full t k)) → (k : ℕ) → k < length numbers → stamp_for q.far.sizes q.slots k ≡ stamp_for p.far.sizes p.slots k
stamps_kept p q numbers counts was now listed sizes kept k h =
    let s = listed.each k h in
    let n = was.held s.0 s.1 k s.2 in
    let there = kept s.0 s.1 k s.2 in
    place_is q now there.0 s.1 k n.0 there.1 (sizes k n.0 n.1) ∙ sym (place_is p was s.0 s.1 k n.0 s.2 n.1)
