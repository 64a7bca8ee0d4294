-- The word that a pin found, on which no view may rest.
use Rattle.std.proofs.Common.{◌≡◌, ℕ, ◌+◌, ◌/◌, Bool, true, false, cond, Option, Some, None, is_some, length, refl, sym, ap, subst, ◌∙◌}
use Rattle.std.specs.Prelude.{◌||◌}
use Rattle.std.proofs.lemmas.Bool.{false≢true}
use Rattle.far_word.specs.declared.pointer.Place.{Place}
use Rattle.far_word.specs.declared.pointer.PtrWord.{PtrWord}
use Rattle.far_word.specs.declared.pointer.PtrWord.TheVariants.{Free, Near, Far}
use Rattle.far_word.specs.declared.sizes.TheConstants.{CELLS}
use Rattle.far_word.specs.Pointer.{read_of}
use Rattle.far_word.proofs.ByteLaws.{length-bytes_of}
use Rattle.far_events.specs.declared.event.Event.TheVariants.{Pin}
use Rattle.far_events.specs.declared.event.Reply.TheVariants.{Word}
use Rattle.far_events.specs.events.Pin.{pin_answer, place_to_view}
use Rattle.far_events.specs.state.State.{State, addr}
use Rattle.far_core.specs.world.World.{Object}
use Rattle.far_core.specs.world.WorldOf.{object_of, world_of}
use Rattle.far_table.specs.View.{ObjectView, OwnerView}
use Rattle.far_table.specs.StateOf.{state_of}
use Rattle.far_table.specs.Tells.{OwnerMade}
use Rattle.far_table.specs.Views.{ds_of, len_of, object_at, uses}
use Rattle.far_heap.specs.Mine.{IsSlow}

near_marks : (e v d : Bool) (place : Place) (x y : Object) → cond d None (Some x) ≡ Some y → cond (e || v || d) None (Some place) ≡ None → ((e || v) ≡ true) × (d ≡ false) × (x ≡ y)
near_marks e v true place x y there none = let odd : None ≡ Some y = there in absurd (cc)
near_marks true v false place x y there none = (refl, refl, cc)
near_marks false true false place x y there none = (refl, refl, cc)
near_marks false false false place x y there none = let odd : Some place ≡ None = none in absurd (cc)

far_marks : (d : Bool) (x y : Object) → cond d None (Some x) ≡ Some y → (d ≡ false) × (x ≡ y)
far_marks true x y there = let odd : None ≡ Some y = there in absurd (cc)
far_marks false x y there = (refl, cc)

slow_of : (word stored : ℕ → ℕ) (p : ℕ) (v : Option PtrWord) (y : Object) → object_of word stored p v ≡ Some y → place_to_view v ≡ None → IsSlow (length y.bytes) y.ds v
slow_of word stored p None y there none = absurd (cc)
slow_of word stored p (Some Free) y there none = absurd (cc)
slow_of word stored p (Some (Near len ds place m)) y there none =
    let h = near_marks m.evac m.moved m.dropped place _ y there none in
    (sym (length-bytes_of (λ i. word (addr place + 1 + i)) len) ∙ ap (λ (z : Object). length z.bytes) h.2, ap (λ (z : Object). z.ds) h.2, h.0, h.1)
slow_of word stored p (Some (Far len ds m)) y there none =
    let h = far_marks m.dropped _ y there in
    (sym (length-bytes_of stored len) ∙ ap (λ (z : Object). length z.bytes) h.1, ap (λ (z : Object). z.ds) h.1, h.0)

found_is : (w x : ℕ) (place : Option Place) → Word w ≡ pin_answer x place → w ≡ x
found_is w x None says = cc
found_is w x (Some place) says = absurd (cc)

there_of : (s : State) (p : ℕ) (y : Object) → (world_of s).object p ≡ Some y → object_of s.word (s.stored p) p (read_of (s.cell p)) ≡ Some y
unfolding world_of
there_of s p y e = e

pub slow_word : (o o' : OwnerView) (p w : ℕ) (x : ObjectView) → OwnerMade (Pin o.number p) o (Word w) o' → p / CELLS ≡ o.number → object_at o p ≡ Some x →
    place_to_view (read_of w) ≡ None → IsSlow x.len x.ds (read_of w)
slow_word o o' p w x made own used none =
    let s : State = state_of made.words made.book made.others in
    let is : w ≡ s.cell p = found_is w (s.cell p) (place_to_view (read_of (s.cell p))) made.says in
    let has = (made.facts.owners o.number o made.stands).objects p x own used in
    let slow = slow_of s.word (s.stored p) p (read_of (s.cell p)) has.object (there_of s p has.object has.there) (ap (λ n. place_to_view (read_of n)) (sym is) ∙ none) in
    subst (λ (z : ℕ × ℕ). IsSlow z.0 z.1 (read_of w)) (λ i. (has.len i, has.ds i)) (subst (λ n. IsSlow (length has.object.bytes) has.object.ds (read_of n)) (sym is) slow)

some_there : (x : Option ObjectView) → is_some x ≡ true → (y : ObjectView) × (x ≡ Some y)
some_there None h = absurd (false≢true h)
some_there (Some y) h = (y, refl)

-- in terms of what the owner knows of the object
pub slow_found : (o o' : OwnerView) (p w : ℕ) → OwnerMade (Pin o.number p) o (Word w) o' → p / CELLS ≡ o.number → uses o p ≡ true →
    place_to_view (read_of w) ≡ None → IsSlow (len_of (object_at o p)) (ds_of (object_at o p)) (read_of w)
slow_found o o' p w made own used none =
    let y = some_there (object_at o p) used in
    subst (λ z. IsSlow (len_of z) (ds_of z) (read_of w)) (sym y.1) (slow_word o o' p w y.0 made own y.1 none)
