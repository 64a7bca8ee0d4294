-- Stores into an object that is held and soiled: each is made, and they make a row of words.
use mathlib.Core.Path.{fun_ext}
use Rattle.std.proofs.Common.{◌≡◌, ℕ, zero, suc, ◌+◌, ◌-◌, ◌*◌, ◌^◌, ◌<◌, true, sym, ap, subst, ◌∙◌, arith, List, map}
use Rattle.std.specs.List.{range_with_len}
use Rattle.far_word.specs.declared.pointer.Place.{Place}
use Rattle.far_word.specs.Sizes.{words_for}
use Rattle.far_events.specs.declared.event.Event.{Event}
use Rattle.far_events.specs.declared.event.Event.TheVariants.{Store}
use Rattle.far_events.specs.state.Law.{Law}
use Rattle.far_events.specs.events.Legal.{Legal, HoldsObject}
use Rattle.far_events.specs.state.State.{State, put}
use Rattle.far_word.specs.Pointer.{read_of}
use Rattle.far_events.specs.events.Step.{is_legal, after, near_data}
use Rattle.far_core.proofs.Keeps.{keeps}
use Rattle.far_core.proofs.Owing.{is_test}
use Rattle.far_events.specs.events.Ranges.{with_row, after_events}
use Rattle.far_alone.specs.EventRows.{AllSucceed}
use Rattle.far_alone.proofs.MadeLemmas.{made_first, first_succeeds}
use Rattle.far_events.proofs.Rows.{row_none, row_first}

-- ---- a row of stores
module _ (m p len : ℕ) (place : Place) (w : ℕ → ℕ) (wide : (i : ℕ) → w i < 2 ^ 64)
    (pad : (i : ℕ) → i < words_for len → w i < 2 ^ (8 * (len - 8 * i))) where
  -- a store is legal
  store_fact : (u : State) → HoldsObject u m p len place → u.soiled p ≡ true → (i : ℕ) → i < words_for len → Legal u (Store m p i (w i))
  store_fact u h soiled i lt = (len, (place, h, lt), pad i lt, soiled)

  -- a store leaves the object held
  store_holds : (u : State) → HoldsObject u m p len place → (i : ℕ) → HoldsObject (after u (Store m p i (w i))) m p len place
  store_holds u h i = record { own = h.own; rests = h.rests; near = h.near }

  -- the stores succeed
  pub stores_go : (count first : ℕ) (u : State) → Law u → HoldsObject u m p len place → u.soiled p ≡ true → ((i : ℕ) → i < count → first + i < words_for len) →
      AllSucceed u (map (λ i. Store m p i (w i)) (range_with_len first count))
  stores_go zero first u law h soiled inside = tt
  stores_go (suc count) first u law h soiled inside =
      let at : first + 0 ≡ first = omega arith in
      let lt : first < words_for len = subst (λ i. i < words_for len) at (inside 0 (omega arith)) in
      let fact = store_fact u h soiled first lt in
      let legal : is_legal u (Store m p first (w first)) ≡ true = is_test u (Store m p first (w first)) fact in
      let rest = stores_go count (first + 1) (after u (Store m p first (w first))) (keeps u (Store m p first (w first)) law (wide first) fact) (store_holds u h first) soiled
      (λ i less. let e : first + suc i ≡ first + 1 + i = omega arith in subst (λ k. k < words_for len) e (inside (suc i) (omega arith))) in
      first_succeeds u (Store m p first (w first)) (map (λ i. Store m p i (w i)) (range_with_len (first + 1) count)) legal tt rest

  -- they make a row of words
  pub stores_end : (count first : ℕ) (u : State) → Law u → HoldsObject u m p len place → u.soiled p ≡ true → ((i : ℕ) → i < count → first + i < words_for len) →
      after_events u (map (λ i. Store m p i (w i)) (range_with_len first count)) ≡ record u { word = with_row u.word (near_data (read_of (u.cell p)) + first) count (λ i. w (first + i)) }
  stores_end zero first u law h soiled inside = ap (λ (f : ℕ → ℕ). record u { word = f }) (row_none u.word (near_data (read_of (u.cell p)) + first) (λ i. w (first + i)))
  stores_end (suc count) first u law h soiled inside =
      let at : first + 0 ≡ first = omega arith in
      let lt : first < words_for len = subst (λ i. i < words_for len) at (inside 0 (omega arith)) in
      let fact = store_fact u h soiled first lt in
      let legal : is_legal u (Store m p first (w first)) ≡ true = is_test u (Store m p first (w first)) fact in
      let row : List Event = map (λ i. Store m p i (w i)) (range_with_len (first + 1) count) in
      let d : ℕ = near_data (read_of (u.cell p)) in
      let one : d + (first + 1) ≡ d + first + 1 = omega arith in
      let next : (λ (i : ℕ). w (first + 1 + i)) ≡ (λ i. w (first + (i + 1))) = fun_ext (λ i. let e : first + 1 + i ≡ first + (i + 1) = omega arith in ap w e) in
      made_first u (Store m p first (w first)) row legal
      ∙ stores_end count (first + 1) (after u (Store m p first (w first))) (keeps u (Store m p first (w first)) law (wide first) fact) (store_holds u h first) soiled
      (λ i less. let e : first + suc i ≡ first + 1 + i = omega arith in subst (λ k. k < words_for len) e (inside (suc i) (omega arith)))
      ∙ ap (λ (f : ℕ → ℕ). record u { word = f })
      ((λ j. with_row (put u.word (d + first) (w first)) (one j) count (next j)) ∙ row_first u.word (d + first) count (w first) (λ i. w (first + i)) (ap w (sym at)))
