use Rattle.std.proofs.Common.{ℕ, Result, Ok, Err, subst}
use Rattle.std.specs.Prelude.{IfOk}
use Rattle.far_word.specs.declared.pointer.Place.{Place}
use Rattle.far_word.specs.declared.refused.Refused.{Refused}
use Rattle.far_table.specs.declared.book.BookSeat.{BookSeat}
use Rattle.far_table.specs.BookSeats.{seat_makes, seat_view}
use Rattle.far_book.specs.book.Calls.{PlacesObject}
use Rattle.far_evac.specs.EvacOf.{EvacOf, SameRound}
use Rattle.far_heap.specs.Helping.{PlacesNew}
use Rattle.far_heap.proofs.Named.{stays_named}
use Rattle.far_heap.proofs.evacuator.Evacuator.place_new.Goals as goal

module _ {D : Type 0} (e f : EvacOf (BookSeat D) D) (len ds : ℕ) where
  places_new : (r : Result ℕ Refused) → IfOk r (λ p. (place : Place) × PlacesObject ⊥ seat_view seat_makes e.book f.book p len ds (Ok place)) → SameRound e f → IfOk r (λ p. PlacesNew e f p len ds)
  places_new (Ok p) placed round = record { place = placed.0; placed = placed.1; round = round }
  places_new (Err why) placed round = tt

pub invariant_of-self : goal.invariant_of-self
invariant_of-self g c = stays_named _ c.self.inside.evac c.place_new.new.evac c.place_new.ensures.came c.place_new.ensures.round.2 c.self.invariant

pub returns-clause-placed : goal.returns-clause-placed
returns-clause-placed g c =
    subst (λ (e : EvacOf (BookSeat g.row.D.Denot) g.row.D.Denot). IfOk c.place_new.result (λ p. PlacesNew e c.place_new.new.evac p c.args.len c.args.ds)) c.self.view_is
    (places_new c.self.inside.evac c.place_new.new.evac c.args.len c.args.ds c.place_new.result c.place_new.ensures.placed c.place_new.ensures.round)
