-- MOVE set anew, and then again.
use Rattle.std.proofs.Common.{◌≡◌, ◌⊎◌, ℕ, ◌+◌, ◌%◌, Bool, true, false, Option, None, List, length, get_or, set, refl, sym, ap, subst, ◌∙◌, inl, inr, arith}
use Rattle.std.specs.Prelude.{IfNone}
use Rattle.std.proofs.lemmas.Bool.{cases_lt}
use Rattle.std.proofs.lemmas.Grind.{get_or-set_at}
use Rattle.std.proofs.lemmas.List.{length-set, set-get_or, set-set, set_past}
use Rattle.far_word.specs.declared.sizes.TheConstants.{CELLS}
use Rattle.far_word.specs.declared.refused.Refused.{Refused}
use Rattle.far_word.specs.declared.refused.Refused.TheVariants.{NoRoom, NotHeld}
use Rattle.far_heap.specs.declared.view.Tried.{Tried}
use Rattle.far_heap.specs.declared.view.Tried.TheVariants.{View as Viewed, Slow}
use Rattle.far_heap.specs.declared.view.View.{View}
use Rattle.far_heap.specs.Made.{Pinned}
use Rattle.far_heap.specs.Mine.{Asks, AsksToView, IsNoView, IsRefusedView, IsUnbrought, Mine, TriedSo, asking, uses, view_of, viewing, views}

row_none : (xs : List ℕ) (i : ℕ) → set xs i (get_or xs i 0 + 0) ≡ xs
row_none xs i = let same : get_or xs i 0 + 0 ≡ get_or xs i 0 = omega arith in ap (set xs i) same ∙ set-get_or xs i 0

row_twice : (xs : List ℕ) (i k n : ℕ) → set (set xs i (get_or xs i 0 + k)) i (get_or (set xs i (get_or xs i 0 + k)) i 0 + n) ≡ set xs i (get_or xs i 0 + (k + n))
row_twice xs i k n = elim (cases_lt i (length xs)) [
  | inl lt ↦ (let v : ℕ = get_or xs i 0 + k in
      let sum : get_or (set xs i v) i 0 + n ≡ get_or xs i 0 + (k + n) = omega (arith, get_or-set_at xs i i v 0 refl lt) in
      set-set xs i v (get_or (set xs i v) i 0 + n) ∙ ap (set xs i) sum)
  | inr le ↦ (let v : ℕ = get_or xs i 0 + k in
      set_past (set xs i v) i (get_or (set xs i v) i 0 + n) (omega (arith, le, length-set xs i v)) ∙ set_past xs i v le ∙ sym (set_past xs i (get_or xs i 0 + (k + n)) le))
]

pub asks_none : (p : ℕ) (m : Mine) → Asks p m m
asks_none p m = (0, ap (λ (row : List ℕ). record m { asked = row }) (sym (row_none m.asked (p % CELLS))))

pub asks_then : (p : ℕ) (a b c : Mine) → Asks p a b → Asks p b c → Asks p a c
asks_then p a b c x y = (x.0 + y.0, y.1 ∙ ap (asking p y.0) x.1 ∙ ap (λ (row : List ℕ). record a { asked = row }) (row_twice a.asked (p % CELLS) x.0 y.0))

pub asks_to_view : (p : ℕ) (a b c : Mine) → Asks p a b → c ≡ viewing p b → AsksToView p a c
asks_to_view p a b c x is = (x.0, is ∙ ap (viewing p) x.1)

-- ---- tries under the lock, one after the other
module _ (p : ℕ) (a b n : Mine) (x : Asks p a b) where
  pub asks_and_views : AsksToView p b n → AsksToView p a n
  asks_and_views y = let t = asks_then p a b (asking p y.0 b) x (y.0, refl) in (t.0, y.1 ∙ ap (viewing p) t.1)

  pub asks_refused : (why : Refused) → IsUnbrought why → Asks p b n → IsUnbrought why × Asks p a n
  asks_refused why unbrought asks = (unbrought, asks_then p a b n x asks)

  -- the first was refused, or one for want of room
  pub unasked_so : (first : Bool) (why : Refused) → (first ≡ true → b ≡ a) → (first ≡ true) ⊎ (why ≡ NoRoom) → (why ≡ NoRoom) ⊎ (n ≡ b) → (why ≡ NoRoom) ⊎ (n ≡ a)
  unasked_so first why begins (inl is) (inl room) = inl room
  unasked_so first why begins (inl is) (inr same) = inr (same ∙ begins is)
  unasked_so first why begins (inr room) kept = inl room

-- ---- a try before the lock is taken
pub tried_unheld : (p : ℕ) (m n : Mine) (why : Refused) → (why ≡ NotHeld) × (uses m p ≡ false) × (n ≡ m) → IsNoView m p why × Asks p m n
tried_unheld p m n why (is, unused, same) = (subst (λ b. IsRefusedView b (views m p) why) (sym unused) is, subst (Asks p m) (sym same) (asks_none p m))

-- it gave a view; or it gave none, and the object was brought
pub quick_views : (p : ℕ) (m n : Mine) (tried : Tried) → TriedSo p m tried n → ((word : ℕ) → tried ≡ Slow word → ⊥) → AsksToView p m n
quick_views p m n (Viewed view) so other = asks_to_view p m m n (asks_none p m) so.1
quick_views p m n (Slow word) so other = absurd (other word refl)

pub slow_views : (p : ℕ) (m b n : Mine) (tried : Tried) (word : ℕ) (why : Option Refused) → TriedSo p m tried b → tried ≡ Slow word → why ≡ None → IfNone why (AsksToView p b n) → AsksToView p m n
slow_views p m b n tried word why so is none brought =
    let slow = subst (λ (t : Tried). TriedSo p m t b) is so in
    subst (λ (x : Mine). AsksToView p x n) slow.1 (subst (λ (o : Option Refused). IfNone o (AsksToView p b n)) none brought)

-- the view that is made then
pub view_made : (p : ℕ) (m n : Mine) (view : View) → uses m p ≡ true → AsksToView p m n → view ≡ view_of p n → (uses m p ≡ true) × (view ≡ view_of p m) × AsksToView p m n
view_made p m n view used asks is = (used, is ∙ ap (view_of p) asks.1, asks)

-- a try that gave a view was one pin
pub quick_pins : (p : ℕ) (m n : Mine) (tried : Tried) → Pinned p m tried n → ((word : ℕ) → tried ≡ Slow word → ⊥) → Pinned p m (Viewed (view_of p m)) n
quick_pins p m n (Viewed view) made other = made
quick_pins p m n (Slow word) made other = absurd (other word refl)

-- what is said of what wasn't refused
pub unrefused : {X : Type 0} (why : Option Refused) → why ≡ None → IfNone why X → X
unrefused {X} why is said = subst (λ (o : Option Refused). IfNone o X) is said
