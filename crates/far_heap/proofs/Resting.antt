-- What a mutator views is held by its seat.
use Rattle.std.proofs.Common.{◌≡◌, ℕ, ◌/◌, true, refl, Some, None, Option, is_some}
use Rattle.std.proofs.lemmas.Bool.{eqb-true, false≢true}
use Rattle.far_word.specs.declared.pointer.Place.{Place}
use Rattle.far_word.specs.declared.sizes.TheConstants.{CELLS}
use Rattle.far_events.specs.state.State.{State}
use Rattle.far_table.specs.Seats.{Seated}
use Rattle.far_table.specs.Tells.{HasState, OwnerMayBe}
use Rattle.far_table.specs.Viewed.{StaysGiven}
use Rattle.far_table.specs.Views.{asked_at, held_at}
use Rattle.far_heap.specs.HeapId.{HeapId}
use Rattle.far_heap.specs.LogsStay.{LogsStay}
use Rattle.far_heap.specs.Mine.{mine_of}
use Rattle.far_heap.proofs.Mines.{views_so}
use Rattle.far_heap.proofs.OwnRows.{own_row-get}

-- where something is, it is this
there : {A : Type 0} → (o : Option A) → is_some o ≡ true → (x : A) × (o ≡ Some x)
there None no_one = absurd (false≢true no_one)
there (Some x) _ = (x, refl)

pub logs_stay : (heap : HeapId) (seat : Seated) → seat.table ≡ heap.table → HasState seat.view
    → ((x : State) → OwnerMayBe seat.view x → (p : ℕ) (place : Place) → held_at seat.view p ≡ Some place → (x.held p ≡ Some place) × StaysGiven x p place)
    → LogsStay heap (mine_of seat)
logs_stay heap seat named exists kept = record {
  seat = seat;
  mine = refl;
  named = named;
  there = exists;
  stay = λ p viewed. let found = there (held_at seat.view p) (views_so seat p viewed).1 in (found.0, found.1, λ x may. kept x may p found.0 found.1);
  asked = λ p owned. own_row-get (λ q. asked_at seat.view q) seat.view.number p 0 (eqb-true (p / CELLS) seat.view.number owned);
}
