-- What the book does for an owner that has the lock: it looks at the pointer's cell once, and does what the word says that it found there.
use Rattle.std.specs.Prelude.{◌≡◌, ◌⊎◌, ℕ, Bool, true, false, Option, Some, None, is_some, List, Result, Ok}
use Rattle.far_word.specs.declared.pointer.Place.{Place}
use Rattle.far_word.specs.declared.pointer.PtrWord.{PtrWord}
use Rattle.far_word.specs.declared.pointer.PtrWord.TheVariants.{Free, Near, Far}
use Rattle.far_word.specs.declared.refused.Refused.{Refused}
use Rattle.far_word.specs.Pointer.{read_of}
use Rattle.far_device.specs.declared.fault.DeviceFault.{DeviceFault}
use Rattle.far_events.specs.declared.event.Event.TheVariants.{See}
use Rattle.far_events.specs.declared.event.Reply.TheVariants.{Word}
use Rattle.far_events.specs.events.Naming.{is_dropped}
use Rattle.far_events.specs.state.State.{State, put}
use Rattle.far_hand.specs.Came.{Came}
use Rattle.far_hand.specs.Finds.{Finds}
use Rattle.far_table.specs.declared.book.BookSeat.{BookSeat}
use Rattle.far_table.specs.BookSeats.{seat_makes, seat_view}
use Rattle.far_book.specs.book.Calls.{FetchesObject, MovesObject, PlacesObject, RetiresObject}
use Rattle.far_evac.specs.EvacOf.{EvacOf, SameRound}

-- ---- what a cell says
abbrev pub says_far : Option PtrWord → Bool
says_far None = false
says_far (Some Free) = false
says_far (Some (Near len ds place marks)) = false
says_far (Some (Far len ds marks)) = true

-- it is near, and its owner has asked for it to be moved
abbrev pub asks_move : Option PtrWord → Bool
asks_move None = false
asks_move (Some Free) = false
asks_move (Some (Near len ds place marks)) = marks.moved
asks_move (Some (Far len ds marks)) = false

module _ {D : Type 0} where
  -- what the book knows of the core, and of a pointer's cell
  abbrev pub core_of : EvacOf (BookSeat D) D → State
  core_of e = seat_view e.book.near

  abbrev pub cell_in : EvacOf (BookSeat D) D → ℕ → Option PtrWord
  cell_in e p = read_of ((core_of e).cell p)

  -- ---- what was done
  -- it looked at a pointer's cell, once, and knows it as it was found. Nothing else of it has changed
  pub record Looks (e f : EvacOf (BookSeat D) D) (p : ℕ) : Type 0 where
    pub made : seat_makes e.book.near (See p) (Word ((core_of f).cell p)) f.book.near
    pub found : Finds ((core_of e).cell p) ((core_of f).cell p)
    pub kept : core_of f ≡ record (core_of e) { cell = put (core_of e).cell p ((core_of f).cell p) }
    pub order : f.book.order ≡ e.book.order
    pub device : f.book.device ≡ e.book.device
    pub round : SameRound e f

  -- a look found an object near, and another that its owner doesn't ask for it to be moved: no more was done
  pub record LooksTwice (e f : EvacOf (BookSeat D) D) (p : ℕ) : Type 0 where
    pub first : EvacOf (BookSeat D) D
    pub looked : Looks e first p
    pub near : says_far (cell_in first p) ≡ false
    pub again : Looks first f p
    pub unasked : asks_move (cell_in f p) ≡ false

  -- its hand was called, and nothing else put in its place; nothing of it has changed, but that marks may have been found in a pointer's cell
  pub record OnlyFinds (e f : EvacOf (BookSeat D) D) (p : ℕ) : Type 0 where
    pub came : Came seat_makes e.book.near f.book.near
    pub found : Finds ((core_of e).cell p) ((core_of f).cell p)
    pub kept : core_of f ≡ record (core_of e) { cell = put (core_of e).cell p ((core_of f).cell p) }
    pub order : f.book.order ≡ e.book.order
    pub round : SameRound e f

  -- a new object of so many zeros was placed for a pointer
  pub record PlacesNew (e f : EvacOf (BookSeat D) D) (p len ds : ℕ) : Type 0 where
    pub place : Place
    pub placed : PlacesObject ⊥ seat_view seat_makes e.book f.book p len ds (Ok place)
    pub round : SameRound e f

  module _ (contents : D → ℕ → Option (List ℕ)) (is_honest : D → Bool) (faults : D → ℕ) (fails_at_most : D → ℕ → Type 0) (lets_go : D → ℕ → D → Type 0) (forgets : Type 0) where
    -- the dropped object of a pointer was retired
    pub record RetiresIt (e f : EvacOf (BookSeat D) D) (p : ℕ) : Type 0 where
      pub retired : RetiresObject ⊥ seat_view seat_makes contents is_honest faults fails_at_most lets_go forgets e.book f.book p
      pub round : SameRound e f

    -- the near object of a pointer was moved, or stayed without marks, or was retired; or there was no room
    pub record MovesIt (e f : EvacOf (BookSeat D) D) (p : ℕ) (answer : Result (Option Place) Refused) : Type 0 where
      pub moved : MovesObject ⊥ seat_view seat_makes contents is_honest faults fails_at_most lets_go forgets e.book f.book p answer
      pub round : SameRound e f

    -- the far object of a pointer came near, or was retired; or that was refused
    pub record FetchesIt (reads : D → ℕ → Result (List ℕ) DeviceFault → D → Type 0) (reads_in_place : Type 0) (e f : EvacOf (BookSeat D) D) (p : ℕ) (answer : Result (Option Place) Refused) : Type 0 where
      pub fetched : FetchesObject ⊥ seat_view seat_makes contents is_honest faults fails_at_most lets_go forgets reads reads_in_place e.book f.book p answer
      pub round : SameRound e f

    -- a look found DROP in the cell, and the object was retired; or it found none, and no more was done
    pub record LooksAndRetires (p : ℕ) (e f : EvacOf (BookSeat D) D) : Type 0 where
      pub found : EvacOf (BookSeat D) D
      pub looked : Looks e found p
      pub dropped : is_dropped (cell_in found p) ≡ true → RetiresIt found f p
      pub alive : is_dropped (cell_in found p) ≡ false → f ≡ found

    -- a look found an object far, and it was fetched, with this answer; no more was done
    pub record LooksAndFetches (reads : D → ℕ → Result (List ℕ) DeviceFault → D → Type 0) (reads_in_place : Type 0) (e f : EvacOf (BookSeat D) D) (p : ℕ) (answer : Result (Option Place) Refused) : Type 0 where
      pub found : EvacOf (BookSeat D) D
      pub looked : Looks e found p
      pub far : says_far (cell_in found p) ≡ true
      pub fetched : FetchesIt reads reads_in_place found f p answer

    -- a look found it near, and another that its owner asks for it to be moved, and it was, with this answer; no more was done
    pub record LooksAndMoves (e f : EvacOf (BookSeat D) D) (p : ℕ) (answer : Result (Option Place) Refused) : Type 0 where
      pub first : EvacOf (BookSeat D) D
      pub looked : Looks e first p
      pub near : says_far (cell_in first p) ≡ false
      pub found : EvacOf (BookSeat D) D
      pub again : Looks first found p
      pub asked : asks_move (cell_in found p) ≡ true
      pub moved : MovesIt found f p answer

    -- of an object that its owner wants to view that was done, and no more: it lies at a place then, if it was brought
    abbrev pub Brings : (D → ℕ → Result (List ℕ) DeviceFault → D → Type 0) → Type 0 → EvacOf (BookSeat D) D → EvacOf (BookSeat D) D → ℕ → Option Place → Type 0
    Brings reads reads_in_place e f p found = LooksAndFetches reads reads_in_place e f p (Ok found) ⊎ LooksAndMoves e f p (Ok found) ⊎ ((found ≡ None) × LooksTwice e f p)

    -- and whether it was brought
    abbrev pub BringsSo : (D → ℕ → Result (List ℕ) DeviceFault → D → Type 0) → Type 0 → ℕ → Bool → EvacOf (BookSeat D) D → EvacOf (BookSeat D) D → Type 0
    BringsSo reads reads_in_place p so e f = (found : Option Place) × (so ≡ is_some found) × Brings reads reads_in_place e f p found

    -- the last that the book did was to bring this object: it was fetched, or moved, or stayed where it lay without EVAC and MOVE
    abbrev pub IsBrought : (D → ℕ → Result (List ℕ) DeviceFault → D → Type 0) → Type 0 → EvacOf (BookSeat D) D → ℕ → Type 0
    IsBrought reads reads_in_place f p = (e : EvacOf (BookSeat D) D) × (place : Place) × (FetchesIt reads reads_in_place e f p (Ok (Some place)) ⊎ MovesIt e f p (Ok (Some place)))
