-- What a mutator holds, by a row of bits and a row of places: which pointers, and at which places.
use Rattle.std.proofs.Common.{◌≡◌, ℕ, ◌+◌, ◌<◌, ◌*◌, ◌/◌, ◌%◌, ◌∙◌, arith, ap, sym, refl, inl, inr, Bool, true, false, cond, List, length, get_or, set, Option, Some, None}
use Rattle.std.specs.Prelude.{is_some}
use Rattle.std.specs.Vec.{vec_len}
use Rattle.std.proofs.lemmas.Bool.{cases_eq, false≢true}
use Rattle.std.proofs.lemmas.Grind.{get_or_default_zero}
use Rattle.std.proofs.lemmas.List.{get_or-set_same, get_or-set_other}
use mathlib.Core.Path.{fun_ext}
use Rattle.far_word.specs.declared.pointer.Place.{Place}
use Rattle.far_word.specs.declared.sizes.TheConstants.{LOG_WORDS}
use Rattle.far_events.specs.declared.memory.Memory.{Memory}
use Rattle.far_events.specs.state.Bits.{bit_in}
use Rattle.far_events.specs.state.Memory.{place_in, state_of}
use Rattle.far_events.specs.state.State.{put}
use Rattle.far_events.proofs.Bits.{within_bits}
use Rattle.far_events.proofs.Put.{put_same, put_other}

abbrev pub held_by : (ℕ → Bool) → List ℕ → ℕ → Option Place
held_by hs ns p = cond (hs p) (Some (place_in (get_or ns p 0))) None

-- the number of a place says it
pub number_says : (place : Place) → place.at < LOG_WORDS → place_in (place.log * LOG_WORDS + place.at) ≡ place
number_says place inside =
    let log : (place.log * LOG_WORDS + place.at) / LOG_WORDS ≡ place.log = omega (arith, inside) in
    let at : (place.log * LOG_WORDS + place.at) % LOG_WORDS ≡ place.at = omega (arith, inside) in
    λ i. record { log = log i; at = at i }

module _ (hs : ℕ → Bool) (ns : List ℕ) (k : ℕ) where
  -- one more is held
  pub held_more : (place : Place) (n : ℕ) → place_in n ≡ place → k < length ns → held_by (put hs k true) (set ns k n) ≡ put (held_by hs ns) k (Some place)
  held_more place n says room = fun_ext (λ q. elim (cases_eq q k) [
    | inl e ↦ ap (held_by (put hs k true) (set ns k n)) e
        ∙ ap (λ b. cond b (Some (place_in (get_or (set ns k n) k 0))) None) (put_same hs k true k refl)
        ∙ ap (λ (m : ℕ). Some (place_in m)) (get_or-set_same ns k n 0 room) ∙ ap (λ (v : Place). Some v) says ∙ sym (put_same (held_by hs ns) k (Some place) q e)
    | inr ne ↦ ap (λ b. cond b (Some (place_in (get_or (set ns k n) q 0))) None) (put_other hs k true q ne)
        ∙ ap (λ (m : ℕ). cond (hs q) (Some (place_in m)) None) (get_or-set_other ns k q n 0 ne) ∙ sym (put_other (held_by hs ns) k (Some place) q ne)
  ])

-- nothing of a part is held
pub held_none : (b c : Bool) (place : Place) → cond (cond b false c) (Some place) None ≡ cond b None (cond c (Some place) None)
held_none true c place = refl
held_none false c place = refl

-- what is held is set, and at the place that stands there
held_set : (b : Bool) (place : Place) → is_some (cond b (Some place) None) ≡ true → b ≡ true
held_set true place h = refl
held_set false place h = absurd cc

some_held : (b : Bool) (place : Place) → b ≡ true → cond b (Some place) None ≡ Some place
some_held true place on = refl
some_held false place on = absurd (false≢true on)

module _ (c : Memory) (p : ℕ) (h : is_some ((state_of c).held p) ≡ true) where
  is_set : bit_in c.held p ≡ true
  unfolding state_of
  is_set = held_set (bit_in c.held p) (place_in (get_or c.places.items p 0)) h

  pub held_within : p < vec_len c.places
  held_within = omega (arith, within_bits c.held p is_set, c.held_sized, c.places_sized)

  pub held_is : (n : ℕ) → n ≡ get_or c.places.items p n → (state_of c).held p ≡ Some (place_in n)
  unfolding state_of
  held_is n read = some_held (bit_in c.held p) (place_in (get_or c.places.items p 0)) is_set
      ∙ ap (λ (m : ℕ). Some (place_in m)) (sym (read ∙ get_or_default_zero c.places.items p n (omega (arith, held_within, c.places.ok.0))))
