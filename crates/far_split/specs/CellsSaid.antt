-- What a mutator's lines are told of cells, in other words: by the numbers of refusals, and by what a cell's word says.
use Rattle.std.specs.Prelude.{◌≡◌, ◌≢◌, ◌⊎◌, ℕ, ◌+◌, ◌/◌, ◌<◌, Bool, true, false, Some, List, length, Ok, Err}
use Rattle.std.specs.List.{AllZip}
use Rattle.far_word.specs.declared.mark.Marks.{Marks}
use Rattle.far_word.specs.declared.pointer.Place.{Place}
use Rattle.far_word.specs.declared.pointer.PtrWord.TheVariants.{Near, Far}
use Rattle.far_word.specs.declared.refused.Refused.{Refused as Refusal}
use Rattle.far_word.specs.declared.refused.Refused.TheVariants.{Marked}
use Rattle.far_word.specs.Pointer.{read_of}
use Rattle.far_word.specs.Refused.{refusal_number}
use Rattle.far_events.specs.declared.event.Kind.TheVariants as kinds
use Rattle.far_events.specs.state.State.{State}
use Rattle.far_device.specs.declared.fault.DeviceFault.TheVariants.{Device}
use Rattle.far_table.specs.declared.book.BookSeat.{BookSeat}
use Rattle.far_table.specs.BookSeats.{seat_view}
use Rattle.far_evac.specs.EvacOf.{EvacOf}
use Rattle.far_heap.specs.BookHad.{BookDid, BookHad}
use Rattle.far_heap.specs.HeapId.{HeapId}
use Rattle.far_text.specs.Command.{Command, Mutator, New, On, Try}
use Rattle.far_alone.specs.Own.{Own}
use Rattle.far_reply.specs.Reply.{Reply, Pointer, Refused}
use Rattle.far_split.specs.FarSides.{FarReads, FarSide}
use Rattle.far_split.specs.Here.{AloneOn, KnowsHere, TellsOfHeap}

-- ---- room
-- an object of so many bytes, with its header, passes the end of the open log
abbrev pub PassesOpen : State → ℕ → Type 0
PassesOpen s len = 512 < s.tail s.current + (1 + (len + 7) / 8)

-- no two logs are free; and not even one is
abbrev pub HasNoTwoFree : State → Type 0
HasNoTwoFree s = (k l : ℕ) → k < s.logs → l < s.logs → s.kind k ≡ kinds.Free → s.kind l ≡ kinds.Free → k ≡ l

abbrev pub HasNoneFree : State → Type 0
HasNoneFree s = (l : ℕ) → l < s.logs → s.kind l ≢ kinds.Free

-- it fits into the open log, or two logs are free
abbrev pub HasRoomFor : ℕ → State → Type 0
HasRoomFor len s = ¬ (PassesOpen s len × HasNoTwoFree s)

-- ---- a new object
-- of the mutator's cells this one was free, and no lower one, and there was room; or none was; or one was, and there was no room
abbrev pub HasPlace : ℕ → ℕ → ℕ → State → Type 0
HasPlace m len p s = (p / 256 ≡ m) × (s.cell p ≡ 0) × ((q : ℕ) → q / 256 ≡ m → q < p → s.cell q ≢ 0) × HasRoomFor len s

abbrev pub HasNoCell : ℕ → State → Type 0
HasNoCell m s = (p : ℕ) → p / 256 ≡ m → s.cell p ≢ 0

abbrev pub HasCellAlone : ℕ → ℕ → State → Type 0
HasCellAlone m len s = ((p : ℕ) × (p / 256 ≡ m) × (s.cell p ≡ 0)) × PassesOpen s len × HasNoTwoFree s

-- ---- an object that isn't brought
-- the object passes the end of the open log; and its cell says far, and no two logs were free; or near, with EVAC and MOVE, and no log was free
abbrev pub HasNowhereFor : ℕ → State → Type 0
HasNowhereFor p s = ((len structure : ℕ) × (marks : Marks) × (read_of (s.cell p) ≡ Some (Far len structure marks)) × PassesOpen s len × HasNoTwoFree s)
    ⊎ ((len structure : ℕ) × (place : Place) × (marks : Marks) × (read_of (s.cell p) ≡ Some (Near len structure place marks)) × (marks.evac ≡ true) × (marks.moved ≡ true) × PassesOpen s len × HasNoneFree s)

-- its cell says far; and there was room too
abbrev pub HasFar : ℕ → State → Type 0
HasFar p s = (len structure : ℕ) × (marks : Marks) × (read_of (s.cell p) ≡ Some (Far len structure marks))

abbrev pub HasFarAndRoom : ℕ → State → Type 0
HasFarAndRoom p s = (len structure : ℕ) × (marks : Marks) × (read_of (s.cell p) ≡ Some (Far len structure marks)) × HasRoomFor len s

-- the one read of it failed
abbrev pub FailsToRead : ℕ → EvacOf (BookSeat FarSide) FarSide → EvacOf (BookSeat FarSide) FarSide → Type 0
FailsToRead p before after = HasFar p (seat_view before.book.near) × FarReads before.book.device p (Err Device) after.book.device

-- it gave another number of bytes than the cell says
abbrev pub ReadsOthers : ℕ → EvacOf (BookSeat FarSide) FarSide → EvacOf (BookSeat FarSide) FarSide → Type 0
ReadsOthers p before after = (len structure : ℕ) × (marks : Marks) × (bytes : List ℕ) × (read_of ((seat_view before.book.near).cell p) ≡ Some (Far len structure marks))
    × FarReads before.book.device p (Ok bytes) after.book.device × (length bytes ≢ len)

-- what 2, 10 and 11 say of it
pub record SaysWhy (heap : HeapId) (p : ℕ) (why : Refusal) : Type 0 where
  pub two : refusal_number why ≡ 2 → BookHad FarSide heap (HasNowhereFor p)
  pub ten : refusal_number why ≡ 10 → BookHad FarSide heap (HasFarAndRoom p) × BookDid FarSide heap (FailsToRead p)
  pub eleven : refusal_number why ≡ 11 → BookHad FarSide heap (λ s. HasFarAndRoom p s × (s.honest ≡ false)) × BookDid FarSide heap (ReadsOthers p)

-- ---- a word that is told
-- it is of an object with so many bytes, which is far, or near with EVAC or MOVE; and lacks DROP
abbrev pub IsFarOrMarked : ℕ → ℕ → Type 0
IsFarOrMarked len word = ((structure : ℕ) × (marks : Marks) × (read_of word ≡ Some (Far len structure marks)) × (marks.dropped ≡ false))
    ⊎ ((structure : ℕ) × (place : Place) × (marks : Marks) × (read_of word ≡ Some (Near len structure place marks)) × ((marks.evac ≡ true) ⊎ (marks.moved ≡ true)) × (marks.dropped ≡ false))

-- ---- all lines
abbrev pub IsToldOfCells : HeapId → ℕ → Command → Reply → Type 0
IsToldOfCells heap m (Mutator _ (New len structure)) (Pointer p) = BookHad FarSide heap (HasPlace m len p)
IsToldOfCells heap m (Mutator _ (New len structure)) (Refused why) = (refusal_number why ≡ 2 → BookHad FarSide heap (HasCellAlone m len)) × (refusal_number why ≡ 3 → BookHad FarSide heap (HasNoCell m))
IsToldOfCells heap m (Mutator _ (On p how)) (Refused why) = SaysWhy heap p why
IsToldOfCells heap m (Mutator _ (Try p)) (Refused (Marked word)) = (len : ℕ) × IsFarOrMarked len word
IsToldOfCells heap m c r = Unit {0}

-- the replies to a mutator's own lines tell that, in order
abbrev pub MutatorsAreToldSo : Type 0
MutatorsAreToldSo = (heap : HeapId) (m : ℕ) (o : Own) (cs : List Command) (rs : List Reply) → AloneOn heap m o cs rs → AllZip (IsToldOfCells heap m) cs rs

-- and a word is of an object as long as its mutator knows
abbrev pub WordsAreOfObjects : Type 0
WordsAreOfObjects = (heap : HeapId) (m : ℕ) (o : Own) (k p word : ℕ) → TellsOfHeap heap m o (Mutator k (Try p)) (Refused (Marked word)) → (all : List ℕ) × (o.object p ≡ Some all) × IsFarOrMarked (length all) word

-- no line is refused 1
abbrev pub NoneLacksMemory : Type 0
NoneLacksMemory = (honest : Bool) (m : ℕ) (o : Own) (c : Command) (why : Refusal) (q : Own) → KnowsHere honest m o c (Refused why) q → refusal_number why ≢ 1
