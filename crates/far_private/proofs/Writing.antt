-- Bytes written over a range of an object on which a view may rest.
use Rattle.std.proofs.Common.{◌≡◌, ◌≢◌, ℕ, ◌+◌, ◌/◌, ◌<◌, ◌≤◌, true, refl, sym, ap, subst, ◌∙◌, List, length, Some}
use Rattle.std.specs.Prelude.{IsSome}
use Rattle.far_word.specs.declared.pointer.Place.{Place}
use Rattle.far_word.specs.declared.sizes.TheConstants.{CELLS, LONGEST}
use Rattle.far_word.specs.Pointer.{read_of}
use Rattle.far_events.specs.declared.event.Event.TheVariants.{Close}
use Rattle.far_events.specs.events.Accesses.{IsAtRest, overwritten, words_over, written_word}
use Rattle.far_events.specs.events.Pin.{place_to_view}
use Rattle.far_events.specs.events.Ranges.{after_events, stores}
use Rattle.far_events.specs.events.Step.{after, data_len}
use Rattle.far_events.specs.state.Law.{Law}
use Rattle.far_events.specs.state.State.{State}
use Rattle.far_core.specs.world.World.{World}
use Rattle.far_core.specs.world.WorldOf.{world_of}
use Rattle.far_core.proofs.Accesses.{four, four_closed, four_legal, holds, law_three, three}
use Rattle.far_events.proofs.Rests.{rest_is}
use Rattle.far_events.proofs.Bounds.{some_of}
use Rattle.far_events.proofs.Put.{put_both}
use Rattle.far_core.proofs.events.Pin.{hot_world}
use Rattle.far_alone.specs.Dereference.{says_near}
use Rattle.far_alone.proofs.Spliced.{AreBytes}
use Rattle.far_private.specs.Objects.{Objects, Settled, len_in, objects_of, seen, with_written}
use Rattle.far_private.proofs.Bytes.{held_len, legal_so, made_so, written_objects}
use Rattle.far_private.proofs.Ranging.{near_long}
use Rattle.far_private.proofs.Resting.{at_rest}

-- where a view may rest an object lies near
pub rests_says : (s : State) (p : ℕ) → IsSome (place_to_view (read_of (s.cell p))) → says_near (read_of (s.cell p)) ≡ true
rests_says s p rests = let at = some_of (place_to_view (read_of (s.cell p))) rests in ap says_near (rest_is (read_of (s.cell p)) at.0 at.1).3

-- a scope that ends changes no object
closed_same : (s : State) (m : ℕ) → objects_of (after s (Close m)) ≡ objects_of s
unfolding world_of
closed_same s m = refl

-- nor does one that begins, with a pin
module _ (s : State) (law : Law s) (m p : ℕ) (rest : IsAtRest s m p) where
  three_objects : objects_of (three s law m p rest) ≡ objects_of s
  unfolding world_of
  three_objects = ap (λ (w : World). record { honest = s.honest; logs = s.logs; object = λ q. seen s.honest (w.object q) }) (hot_world s law p rest.used)

module _ (s : State) (law : Law s) (settled : Settled s) (p from : ℕ) (new : List ℕ) (used : s.used p ≡ true) (rests : IsSome (place_to_view (read_of (s.cell p)))) (some : 0 < length new)
    (inside : from + length new ≤ len_in (objects_of s) p) (most : from + length new ≤ LONGEST) (small : AreBytes new) where
  abbrev rest : IsAtRest s (p / CELLS) p
  rest = at_rest s law settled p used

  abbrev place : Place
  place = (some_of (place_to_view (read_of (s.cell p))) rests).0

  abbrev here : place_to_view (read_of (s.cell p)) ≡ Some place
  here = (some_of (place_to_view (read_of (s.cell p))) rests).1

  pub fits : from + length new ≤ data_len s p
  fits = subst (λ n. from + length new ≤ n) (near_long s law p used (rests_says s p rests)) inside

  abbrev t : State
  t = three s law (p / CELLS) p rest

  abbrev soiled : State
  soiled = four s law (p / CELLS) p rest place here

  held : IsSome (t.held p)
  held = rw (holds s law (p / CELLS) p rest place here) refl

  law_t : Law t
  law_t = law_three s law (p / CELLS) p rest

  fits_t : from + length new ≤ data_len t p
  fits_t = subst (λ n. from + length new ≤ n) (ap (λ (o : Objects). len_in o p) (sym (three_objects s law (p / CELLS) p rest)) ∙ held_len t law_t p held) inside

  abbrev stored : State
  stored = after_events soiled (stores (p / CELLS) p (from / 8) (words_over soiled p from new))

  ended : after stored (Close (p / CELLS)) ≡ overwritten s p from new
  ended = four_closed s law (p / CELLS) p rest place here from new fits small

  stored_objects : objects_of stored ≡ with_written p from new (objects_of t)
  stored_objects = written_objects t law_t p from (length new) new held some refl fits_t most small
      (legal_so t law_t p from (length new) new held some refl fits_t most small soiled refl (four_legal s law (p / CELLS) p rest place here from new fits small))
      stored (made_so t law_t p from (length new) new held some refl fits_t most small soiled refl stored refl)

  pub over_written : objects_of (overwritten s p from new) ≡ with_written p from new (objects_of s)
  over_written = ap objects_of (sym ended) ∙ closed_same stored (p / CELLS) ∙ stored_objects ∙ ap (with_written p from new) (three_objects s law (p / CELLS) p rest)

  pub over_settled : Settled (overwritten s p from new)
  over_settled = record {
    mutators = settled.mutators;
    named = λ q. put_both (λ w. w ≢ 0 → s.used q ≡ true) s.cell p (written_word (s.cell p)) q (λ e _. ap s.used e ∙ used) (λ _ busy. settled.named q busy);
    closed = settled.closed;
    fresh = settled.fresh;
  }
