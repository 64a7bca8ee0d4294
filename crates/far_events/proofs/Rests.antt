-- What a cell says of a place where a view of it may rest.
use Rattle.std.proofs.Common.{◌≡◌, ℕ, ◌+◌, ◌-◌, ◌*◌, ◌≤◌, false, arith, Option, Some, None, ap}
use Rattle.std.specs.Prelude.{◌||◌}
use Rattle.std.proofs.lemmas.Bool.Decides.{nat_tests}
use Rattle.far_word.specs.declared.mark.Marks.{Marks}
use Rattle.far_word.specs.declared.pointer.Place.{Place}
use Rattle.far_word.specs.declared.pointer.PtrWord.{PtrWord}
use Rattle.far_word.specs.declared.pointer.PtrWord.TheVariants.{Far, Free, Near}
use Rattle.far_word.specs.declared.sizes.TheConstants.{LOG_WORDS}
use Rattle.far_word.specs.Pointer.{read_of}
use Rattle.far_word.specs.Sizes.{words_for}
use Rattle.far_events.specs.events.Pin.{place_to_view}
use Rattle.far_events.specs.events.Step.{data_len, near_data, near_len}
use Rattle.far_events.specs.state.Law.{Law}
use Rattle.far_events.specs.state.State.{State, addr}
use Rattle.far_events.proofs.Bounds.{near_inside}
use Rattle.far_events.proofs.Cells.{held_near, held_place-place_to_view}

-- where a view may rest an object lies near, with its words in the heap
pub rests_near : (s : State) → Law s → (p : ℕ) (place : Place) → place_to_view (read_of (s.cell p)) ≡ Some place →
    (near_data (read_of (s.cell p)) ≡ addr place + 1) × (addr place + 1 + words_for (data_len s p) ≤ LOG_WORDS * s.logs)
rests_near s law p place rests =
    let near = held_near (read_of (s.cell p)) place (held_place-place_to_view (read_of (s.cell p)) place rests) in
    let len : data_len s p ≡ near.len = ap near_len near.near in
    (ap near_data near.near, omega (arith, (near_inside s law p near.len near.ds place near.marks near.near).1, len))

-- what a cell says where a view may rest
pub rest_is : (o : Option PtrWord) (place : Place) → place_to_view o ≡ Some place → (len ds : ℕ) × (k : Marks) × (o ≡ Some (Near len ds place k)) × ((k.evac || k.moved || k.dropped) ≡ false)
rest_is None place e = absurd cc
rest_is (Some Free) place e = absurd cc
rest_is (Some (Near len ds at k)) place e = (len, ds, k, (let same : at ≡ place = grind (arith, nat_tests) in ap (λ x. Some (Near len ds x k)) same), grind (arith, nat_tests))
rest_is (Some (Far len ds k)) place e = absurd cc
