-- No log is given out under a view of an open scope.
use Rattle.std.specs.Prelude.{◌≡◌, ℕ, ◌%◌, true, Some, slice_index_or}
use Rattle.far_word.specs.declared.pointer.Place.{Place}
use Rattle.far_word.specs.declared.sizes.TheConstants.{CELLS}
use Rattle.far_events.specs.state.State.{State}
use Rattle.far_table.specs.Seats.{Seated}
use Rattle.far_table.specs.Tells.{HasState, OwnerMayBe}
use Rattle.far_table.specs.Viewed.{StaysGiven}
use Rattle.far_table.specs.Views.{asked_at, held_at}
use Rattle.far_heap.specs.HeapId.{HeapId}
use Rattle.far_heap.specs.Mine.{Mine, mine_of, owns, views}

-- a mutator is a seat of the heap's table, and the words and all views may be in some state beside that seat. Each object that the mutator views lies at a place which the seat
-- holds, in whatever state they may be in: there the log of that place isn't free, to give the log back isn't legal, and after any event the log isn't free either. And in the cell
-- of each pointer the mutator set MOVE anew as often as its seat counted
pub record LogsStay (heap : HeapId) (m : Mine) : Type 0 where
  pub seat : Seated
  pub mine : mine_of seat ≡ m
  pub named : seat.table ≡ heap.table
  pub there : HasState seat.view
  pub stay : (p : ℕ) → views m p ≡ true → (place : Place) × (held_at seat.view p ≡ Some place) × ((x : State) → OwnerMayBe seat.view x → (x.held p ≡ Some place) × StaysGiven x p place)
  pub asked : (p : ℕ) → owns m p ≡ true → slice_index_or m.asked (p % CELLS) 0 ≡ asked_at seat.view p
