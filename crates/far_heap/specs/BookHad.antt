-- Why an object was made, dropped or brought, or wasn't: what was so of the heap's book, while its lock was held.
use Rattle.std.specs.Prelude.{◌≡◌, ◌≢◌, ℕ, true, false, Option, Some, None, IsSome, List, length, Result, Ok, Err, IfOk, IfErr}
use Rattle.far_word.specs.declared.pointer.PtrWord.{PtrWord}
use Rattle.far_word.specs.declared.pointer.PtrWord.TheVariants.{Free, Near, Far}
use Rattle.far_word.specs.declared.refused.Refused.{Refused}
use Rattle.far_word.specs.declared.refused.Refused.TheVariants as why
use Rattle.far_word.specs.Pointer.{read_of}
use Rattle.far_word.specs.Sizes.{size_of}
use Rattle.far_core.specs.state.Room.{room}
use Rattle.far_device.specs.declared.fault.DeviceFault.{DeviceFault}
use Rattle.far_device.specs.declared.fault.DeviceFault.TheVariants as fault
use Rattle.far_events.specs.state.State.{State}
use Rattle.far_table.specs.declared.book.BookSeat.{BookSeat}
use Rattle.far_hand.specs.Came.{Came}
use Rattle.far_table.specs.BookSeats.{seat_makes, seat_may_be, seat_view}
use Rattle.far_book.specs.book.Fetching.{far_len}
use Rattle.far_book.specs.book.Ledger.{IsLowestFree}
use Rattle.far_evac.specs.EvacOf.{EvacOf, moment}
use Rattle.far_evac.specs.MomentLaw.{IsLawful}
use Rattle.far_heap.specs.Helping.{OnlyFinds, PlacesNew, cell_in, core_of, says_far}
use Rattle.far_heap.specs.HeapId.{HeapId, heap_of}
use Rattle.far_heap.specs.Mine.{HasLeft, IsNoObject, Mine, UsesAll, adopting, is_length, owns, uses}

-- there was a book of this heap of which that was so: by what it knew, and in each state that the words and all views may have been in beside it; and there
-- is such a state
pub record BookHad (D : Type 0) (heap : HeapId) (P : State → Type 0) : Type 0 where
  pub seat : BookSeat D
  pub named : heap_of heap.copying seat ≡ heap
  pub known : P (seat_view seat)
  pub is : (x : State) → seat_may_be seat x → P x
  pub there : ∥ ((x : State) × seat_may_be seat x) ∥₁

-- there was a lawful book of this heap, and by its own calls alone it became another: of the two that was so. There is a state in which the words and all
-- views may have been beside the first
pub record BookDid (D : Type 0) (heap : HeapId) (R : EvacOf (BookSeat D) D → EvacOf (BookSeat D) D → Type 0) : Type 0 where
  pub before : EvacOf (BookSeat D) D
  pub later : EvacOf (BookSeat D) D
  pub named : heap_of before.copying before.book.near ≡ heap
  pub lawful : IsLawful (moment seat_view before)
  pub came : Came seat_makes before.book.near later.book.near
  pub there : ∥ ((x : State) × seat_may_be before.book.near x) ∥₁
  pub did : R before later

-- ---- to make one
-- a pointer is the lowest of a mutator's whose cell is free, and there is room for an object of so many bytes
pub record HasRoom (number len p : ℕ) (s : State) : Type 0 where
  pub free : IsLowestFree s number (Some p)
  pub room : IsSome (room s (size_of len) true)

-- none of a mutator's 256 cells is free
abbrev pub NoneFree : ℕ → State → Type 0
NoneFree number s = IsLowestFree s number None

-- one is free, but there is no room for an object of so many bytes: it doesn't fit into the open log, and at most one log is free
pub record LacksRoom (number len : ℕ) (s : State) : Type 0 where
  pub pointer : ℕ
  pub free : IsLowestFree s number (Some pointer)
  pub full : room s (size_of len) true ≡ None

-- why none was made
abbrev pub WhyNone : ℕ → ℕ → Refused → State → Type 0
WhyNone number len why.NoPointer s = NoneFree number s
WhyNone number len why.NoRoom s = LacksRoom number len s
WhyNone number len other s = ⊥

-- what was asked for was placed, and nothing more; or it wasn't, and book and round are as before
abbrev pub Places : {D : Type 0} → ℕ → ℕ → ℕ → Result ℕ Refused → EvacOf (BookSeat D) D → EvacOf (BookSeat D) D → Type 0
Places number len ds (Ok p) e f = HasRoom number len p (core_of e) × PlacesNew e f p len ds
Places number len ds (Err why) e f = WhyNone number len why (core_of e) × (f ≡ e)

-- a mutator was to make a new object, by its pointer, and to use it
pub record Allocates (D : Type 0) (heap : HeapId) (old new : Mine) (len ds : ℕ) (result : Result ℕ Refused) : Type 0 where
  -- it uses the object from then on
  pub made : IfOk result (λ p. (is_length len ≡ true) × (owns old p ≡ true) × (uses old p ≡ false) × (new ≡ adopting p len ds old))
  -- the book had room for it, and placed it
  pub had : IfOk result (λ p. BookHad D heap (HasRoom old.number len p))
  pub did : is_length len ≡ true → BookDid D heap (Places old.number len ds result)
  -- refused: the mutator is as before, and of an allowed length the book had no cell, or no room
  pub refused : IfErr result (λ why. IsNoObject len why × (new ≡ old))
  pub none : result ≡ Err why.NoPointer → BookHad D heap (NoneFree old.number)
  pub full : result ≡ Err why.NoRoom → BookHad D heap (LacksRoom old.number len)
  -- and that for want of a pointer only if the mutator uses each of its own, for want of room only if it has one left
  pub all : result ≡ Err why.NoPointer → UsesAll old
  pub left : result ≡ Err why.NoRoom → HasLeft old

-- ---- to drop one
-- its cell is free
abbrev pub IsFreed : ℕ → State → Type 0
IsFreed p s = s.cell p ≡ 0

-- ---- to bring one
-- there is no room where it is wanted: it is far, doesn't fit into the open log, and at most one log is free; or it is near, its owner has asked for it to be
-- moved, a round wants its log, it doesn't fit into the open one, and no log is free
abbrev pub HasNowhere : State → Option PtrWord → Type 0
HasNowhere s None = ⊥
HasNowhere s (Some Free) = ⊥
HasNowhere s (Some (Near len ds place marks)) = (marks.moved ≡ true) × (marks.evac ≡ true) × (room s (size_of len) false ≡ None)
HasNowhere s (Some (Far len ds marks)) = room s (size_of len) true ≡ None

-- it is far, and there is room for it
abbrev pub MayCome : State → Option PtrWord → Type 0
MayCome s None = ⊥
MayCome s (Some Free) = ⊥
MayCome s (Some (Near len ds place marks)) = ⊥
MayCome s (Some (Far len ds marks)) = IsSome (room s (size_of len) true)

-- why that was refused of the object whose word this is: there was no room; or there was, and the device wanted memory, or failed, or gave
-- another number of bytes than the object has, which an honest one doesn't
abbrev pub IsCause : Refused → State → Option PtrWord → Type 0
IsCause why.NoRoom s o = HasNowhere s o
IsCause why.Memory s o = MayCome s o
IsCause why.Device s o = MayCome s o
IsCause why.Damaged s o = MayCome s o × (s.honest ≡ false)
IsCause other s o = ⊥

-- of a pointer's
abbrev pub Unbrought : ℕ → Refused → State → Type 0
Unbrought p why s = IsCause why s (read_of (s.cell p))

-- what the device answered to the one read of a far object that it didn't give: it was refused memory, or failed, or gave another number of bytes than the object has
abbrev pub AnswersRead : {D : Type 0} → (D → ℕ → Result (List ℕ) DeviceFault → D → Type 0) → ℕ → Refused → Option PtrWord → D → D → Type 0
AnswersRead reads p why.Memory o d t = reads d p (Err fault.Memory) t
AnswersRead reads p why.Device o d t = reads d p (Err fault.Device) t
AnswersRead reads p why.Damaged o d t = (bytes : List ℕ) × reads d p (Ok bytes) t × (length bytes ≢ far_len o)
AnswersRead reads p other o d t = ⊥

-- a pointer's cell said far, and says so still; and so the device answered. It was asked nothing else
abbrev pub RefusesRead : {D : Type 0} → (D → ℕ → Result (List ℕ) DeviceFault → D → Type 0) → ℕ → Refused → EvacOf (BookSeat D) D → EvacOf (BookSeat D) D → Type 0
RefusesRead {D} reads p why e f = (says_far (cell_in e p) ≡ true) × (says_far (cell_in f p) ≡ true) × AnswersRead reads p why (cell_in e p) e.book.device f.book.device

-- what the device was asked for an object that it didn't give: nothing, for want of room
abbrev pub AsksInVain : {D : Type 0} → (D → ℕ → Result (List ℕ) DeviceFault → D → Type 0) → ℕ → Refused → EvacOf (BookSeat D) D → EvacOf (BookSeat D) D → Type 0
AsksInVain reads p why.NoRoom e f = f.book.device ≡ e.book.device
AsksInVain reads p other e f = RefusesRead reads p other e f

-- an object wasn't brought, and all is left as it was, but that marks may have been found in its cell
module _ {D : Type 0} (reads : D → ℕ → Result (List ℕ) DeviceFault → D → Type 0) (p : ℕ) where
  pub record LeavesIt (why : Refused) (e f : EvacOf (BookSeat D) D) : Type 0 where
    pub book : OnlyFinds e f p
    pub asked : AsksInVain reads p why e f

-- a book of this heap left it so
abbrev pub IsAnswered : (D : Type 0) → HeapId → (D → ℕ → Result (List ℕ) DeviceFault → D → Type 0) → ℕ → Refused → Type 0
IsAnswered D heap reads p why = BookDid D heap (LeavesIt reads p why)
