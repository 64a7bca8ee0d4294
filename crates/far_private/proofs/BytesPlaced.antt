-- A new object whose first bytes are given, made in one call: what the heap has then.
use Rattle.std.proofs.Common.{◌≡◌, ℕ, ◌+◌, ◌/◌, ◌<◌, ◌≤◌, true, refl, sym, ap, subst, ◌∙◌, arith, Some, List, length, inl, inr}
use Rattle.std.proofs.lemmas.Bool.{cases_eq}
use Rattle.far_word.specs.declared.pointer.Place.{Place}
use Rattle.far_word.specs.declared.sizes.TheConstants.{CELLS, LONGEST}
use Rattle.far_word.specs.Sizes.{size_of}
use Rattle.far_events.specs.events.Legal.{IsClosed}
use Rattle.far_events.specs.events.NewObjects.{made_with}
use Rattle.far_events.specs.state.Law.{Law}
use Rattle.far_core.specs.state.Room.{room}
use Rattle.far_events.specs.state.State.{State}
use Rattle.far_core.proofs.NewObjects.{MayMake, cold, cold_is, law_over, law_taken, made_cold, made_empty, may_make, named, named_is, over, rests_over, taken}
use Rattle.far_alone.proofs.Spliced.{AreBytes}
use Rattle.far_private.specs.Looks.{IsFresh}
use Rattle.far_private.specs.Objects.{Settled, len_in, objects_of, with_filled, with_new, with_written}
use Rattle.far_private.specs.Steps.{Keeps}
use Rattle.far_private.proofs.Keeping.{settled_on}
use Rattle.far_private.proofs.NewBytes.{filled_empty, new_long}
use Rattle.far_private.proofs.Placing.{new_fresh, new_objects, new_settled}
use Rattle.far_private.proofs.Resting.{cool_keeps}
use Rattle.far_private.proofs.Writing.{over_settled, over_written}

pub closed_so : (s : State) → Settled s → (p : ℕ) → p < 2048 → IsClosed s (p / CELLS)
closed_so s settled p within = (omega (arith, settled.mutators), settled.closed (p / CELLS))

module _ (s v : State) (p len ds : ℕ) (place : Place) (bytes : List ℕ) (law : Law s) (settled : Settled s) (free : s.cell p ≡ 0) (within : p < 2048) (some : 0 < len) (most : len ≤ LONGEST) (structure : ds < 256)
    (front : length bytes ≤ len) (small : AreBytes bytes) (found : room s (size_of len) true ≡ Some place) (made : v ≡ made_with s p len ds place bytes) where
  x : MayMake s (p / CELLS) p len ds place bytes
  x = may_make s (p / CELLS) p len ds place bytes law (closed_so s settled p within) (settled.fresh (p / CELLS)) refl free some most structure front small found

  -- zeros are placed, and taken over
  abbrev t : State
  t = taken x

  settled_t : Settled t
  settled_t = new_settled s p len ds place law settled free within some most structure found t (named x) (sym (named_is x)) refl

  objects_t : objects_of t ≡ with_new p len ds (objects_of s)
  objects_t = new_objects s p len ds place law settled free within some most structure found t (named x) (sym (named_is x)) refl

  fresh_t : IsFresh t p
  fresh_t = new_fresh s p len ds place law settled free within some most structure found t (named x) (sym (named_is x)) refl

  -- bytes are written over the first
  module _ (any : 0 < length bytes) where
    inside_t : 0 + length bytes ≤ len_in (objects_of t) p
    inside_t = let there : len_in (objects_of t) p ≡ len = new_long (objects_of s) (objects_of t) p len ds objects_t in omega (arith, there, front)

    written : objects_of (over x) ≡ with_written p 0 bytes (objects_of t)
    written = over_written t (law_taken x) settled_t p 0 bytes fresh_t.used fresh_t.rests any inside_t (omega (arith, most, front)) small

    settled_over : Settled (over x)
    settled_over = over_settled t (law_taken x) settled_t p 0 bytes fresh_t.used fresh_t.rests any inside_t (omega (arith, most, front)) small

    -- and HOT is taken away
    cools : Keeps (over x) (cold x)
    cools = cool_keeps (over x) (law_over x) settled_over p fresh_t.used (cold x) (rests_over x) (cold_is x)

    is_cold : v ≡ cold x
    is_cold = made ∙ sym (made_cold x)

    some_settled : Settled v
    some_settled = subst Settled (sym is_cold) (settled_on (over x) (cold x) settled_over cools)

    some_objects : objects_of v ≡ with_filled p len ds bytes (objects_of s)
    some_objects = ap objects_of is_cold ∙ cools.objects ∙ written ∙ ap (with_written p 0 bytes) objects_t

  -- or there are none
  module _ (none : length bytes ≡ 0) where
    is_taken : v ≡ t
    is_taken = made ∙ made_empty x none

    none_settled : Settled v
    none_settled = subst Settled (sym is_taken) settled_t

    none_objects : objects_of v ≡ with_filled p len ds bytes (objects_of s)
    none_objects = ap objects_of is_taken ∙ objects_t ∙ sym (filled_empty (objects_of s) p len ds bytes none)

  pub filled_settled : Settled v
  filled_settled = elim (cases_eq (length bytes) 0) [ inl none ↦ none_settled none | inr any ↦ some_settled (omega arith) ]

  pub filled_objects : objects_of v ≡ with_filled p len ds bytes (objects_of s)
  filled_objects = elim (cases_eq (length bytes) 0) [ inl none ↦ none_objects none | inr any ↦ some_objects (omega arith) ]
