-- What a heap is made of.
use Rattle.std.specs.Prelude.{◌≡◌, ◌+◌, ◌<◌, ◌≤◌, ℕ, Bool, false, List, [], ◌∷◌, length, map}
use Rattle.std.specs.List.{range_with_len}
use Rattle.atomic_table.specs.Seated.{TableId}
use Rattle.far_word.specs.declared.sizes.TheConstants.{MOST_MUTATORS}
use Rattle.far_events.specs.declared.event.Kind.TheVariants.{Free, Open}
use Rattle.far_events.specs.state.State.{State}
use Rattle.far_table.specs.declared.book.BookSeat.{BookSeat}
use Rattle.far_table.specs.Seats.{Seated}
use Rattle.far_book.specs.book.BookOf.{BookOf}
use Rattle.far_heap.specs.HeapId.{HeapId}
use Rattle.far_heap.specs.Mine.{IsNew, Mine, newcomer}

-- the parts of a heap that nobody has begun to use: what its name is to name, and the book
pub record BlankOf (D : Type 0) : Type 0 where
  pub heap : HeapId
  pub book : BookOf (BookSeat D) D

-- nothing lies in this core: each cell is free, log 0 is open and each other log free, no word of any log is taken, and none is in a round
pub record IsUnused (s : State) : Type 0 where
  pub cells : (p : ℕ) → s.cell p ≡ 0
  pub first : s.kind 0 ≡ Open
  pub others : (l : ℕ) → 0 < l → s.kind l ≡ Free
  pub empty : (l : ℕ) → s.tail l ≡ 0
  pub spans : (a : ℕ) → s.starts a ≡ false
  pub round : (l : ℕ) → s.round l ≡ false

-- these are seats of a table, of owners by number from one on, who have done nothing
abbrev pub AreNew : TableId → Bool → ℕ → List Seated → Type 0
AreNew table honest first [] = Unit {0}
AreNew table honest first (x ∷ xs) = (x.table ≡ table) × (x.view.honest ≡ honest) × IsNew first x.view × AreNew table honest (first + 1) xs

-- those of a whole heap
pub record NewSeats (heap : HeapId) (seats : List Seated) : Type 0 where
  pub many : length seats ≡ heap.mutators
  pub few : length seats ≤ MOST_MUTATORS
  pub are : AreNew heap.table heap.honest 0 seats

-- the first mutators of a new heap, by number, and all
abbrev pub first_newcomers : TableId → Bool → ℕ → List Mine
first_newcomers table honest n = map (λ m. newcomer table m honest) (range_with_len 0 n)

abbrev pub newcomers : HeapId → List Mine
newcomers heap = first_newcomers heap.table heap.honest heap.mutators
