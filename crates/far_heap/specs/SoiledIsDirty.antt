-- What an open scope has soiled has DIRTY in its cell.
use Rattle.std.specs.Prelude.{◌≡◌, ℕ, true}
use Rattle.far_word.specs.Pointer.{read_of}
use Rattle.far_events.specs.state.Law.{is_dirty}
use Rattle.far_events.specs.state.State.{State}
use Rattle.far_table.specs.Seats.{Seated}
use Rattle.far_table.specs.Tells.{HasState, OwnerMayBe}
use Rattle.far_heap.specs.HeapId.{HeapId}
use Rattle.far_heap.specs.Mine.{Mine, mine_of, owns, soils}

-- a mutator is a seat of the heap's table, and the words and all views may be in some state beside that seat. Whatever state they may be in, of the mutator's own
-- pointers its scope has soiled those that are soiled there, and the cell of each has DIRTY
pub record SoiledIsDirty (heap : HeapId) (m : Mine) : Type 0 where
  pub seat : Seated
  pub mine : mine_of seat ≡ m
  pub named : seat.table ≡ heap.table
  pub there : HasState seat.view
  pub same : (p : ℕ) → owns m p ≡ true → (x : State) → OwnerMayBe seat.view x → x.soiled p ≡ soils m p
  pub dirty : (p : ℕ) → soils m p ≡ true → (x : State) → OwnerMayBe seat.view x → is_dirty (read_of (x.cell p)) ≡ true
