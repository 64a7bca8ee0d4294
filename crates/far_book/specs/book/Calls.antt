-- What calls of the book promise that others hand on, each in one record: the crates above cite the record for the book that they have. A record speaks of the book before and after
-- the call, of the call's arguments and of its answer, over the relations of any hand and of any device.
use Rattle.std.specs.Global.{Vec}
use Rattle.std.specs.Prelude.{◌≡◌, ◌≢◌, ◌⊎◌, ◌↔◌, ℕ, Bool, true, false, not, Option, Some, None, List, Result, Ok, Err, IfOk, IfErr, IfSome, IfNone, MatchOption}
use Rattle.far_word.specs.declared.pointer.Place.{Place}
use Rattle.far_word.specs.declared.refused.Refused.{Refused}
use Rattle.far_word.specs.declared.refused.Refused.TheVariants.{Device, Memory, NoRoom}
use Rattle.far_word.specs.Pointer.{read_of}
use Rattle.far_word.specs.Sizes.{size_of}
use Rattle.far_log.specs.declared.span.Span.{Span}
use Rattle.far_events.specs.declared.event.Event.{Event}
use Rattle.far_events.specs.declared.event.Event.TheVariants.{Name, See}
use Rattle.far_events.specs.declared.event.Reply.{Reply}
use Rattle.far_events.specs.declared.event.Reply.TheVariants.{Done, Word}
use Rattle.far_events.specs.events.Naming.{is_dropped}
use Rattle.far_events.specs.state.Law.{is_dirty}
use Rattle.far_core.specs.state.Room as rooms
use Rattle.far_events.specs.state.Spans.{spans_of}
use Rattle.far_events.specs.state.State.{State, put}
use Rattle.far_device.specs.declared.fault.DeviceFault.{DeviceFault}
use Rattle.far_device.specs.Following.{Follows, other_than}
use Rattle.far_hand.specs.Came.{Came, only}
use Rattle.far_hand.specs.Finds.{Finds}
use Rattle.far_hand.specs.Known.{Forgets, KeepsKnown}
use Rattle.far_book.specs.book.Actions.{Does, Evicts, Fetches, Moves, Places, Retires}
use Rattle.far_book.specs.book.Asking.{AsksToEvict, AsksToFetch, WritesIt}
use Rattle.far_book.specs.book.BookOf.{BookOf}
use Rattle.far_book.specs.book.Dealing.{IsRetired, IsSeen, LearnsNone, MovedBy, goal, is_failure, moved_now, order_moved}
use Rattle.far_book.specs.book.Effects.{evicted, order_after, placed, retired}
use Rattle.far_book.specs.book.Evicting.{GoesFar}
use Rattle.far_book.specs.book.Fetching.{IsFetched, RefusesFetch, order_fetched, room_for}
use Rattle.far_book.specs.book.Home.{home_of}
use Rattle.far_book.specs.book.Only.{Reads}
use Rattle.far_book.specs.declared.home.Home.{Home}

module _ {N D : Type 0} (still : Type 0) (view : N → State) (makes : N → Event → Reply → N → Type 0) where
  -- a new object of zeros is placed for p; or there is no room
  pub record PlacesObject (old new : BookOf N D) (p len ds : ℕ) (result : Result Place Refused) : Type 0 where
    -- the hand was called, and nothing else put in its place
    pub came : Came makes old.near new.near
    -- where room is, with one free log left
    pub room : IfOk result (λ place. rooms.room (view old.near) (size_of len) true ≡ Some place)
    -- the object lies there, and words may have been forgotten
    pub kept : IfOk result (λ place. view new.near ≡ record (placed (view old.near) p len ds place) { word = (view new.near).word })
    pub forgot : IfOk result (λ place. Forgets (placed (view old.near) p len ds place) (view new.near))
    -- over a hand that is still none was
    pub exact : still → IfOk result (λ place. view new.near ≡ placed (view old.near) p len ds place)
    -- the log that was open is sealed, if the place is in another
    pub order : IfOk result (λ place. new.order ≡ order_after (view old.near) old.order place)
    pub device : new.device ≡ old.device
    -- a refusal is want of room, and nothing has changed
    pub refused : IfErr result (λ why. why ≡ NoRoom)
    pub none : IfErr result (λ _. rooms.room (view old.near) (size_of len) true ≡ None)
    pub unchanged : IfErr result (λ _. new ≡ old)
    -- the action that this is
    pub ran : still → Does (view old.near) (Places p len ds result) (view new.near)

  -- p's cell was looked at, once, and the answer is where the object is, with the marks that were found
  pub record FindsHome (may_be : N → State → Type 0) (old new : BookOf N D) (p : ℕ) (result : Option Home) : Type 0 where
    pub came : Came makes old.near new.near
    -- the one call of the hand, with the word that it found
    pub made : makes old.near (See p) (Word ((view new.near).cell p)) new.near
    pub found : Finds ((view old.near).cell p) ((view new.near).cell p)
    -- the answer, by that word
    pub home : result ≡ home_of (read_of ((view new.near).cell p))
    -- it is none exactly where the cell was free, and is
    pub free : (result ≡ None) ↔ ((view old.near).cell p ≡ 0)
    pub gone : (result ≡ None) ↔ ((view new.near).cell p ≡ 0)
    -- a state that the words may be in has that word there
    pub saw : ∥ ((x : State) × may_be new.near x × (x.cell p ≡ (view new.near).cell p)) ∥₁
    -- the cell is known as it was found, and nothing else has changed; over a hand that is still nothing has
    pub kept : view new.near ≡ record (view old.near) { cell = put (view old.near).cell p ((view new.near).cell p) }
    pub exact : still → view new.near ≡ view old.near
    pub order : new.order ≡ old.order
    pub device : new.device ≡ old.device

  -- the words of a log were read, and the answer is its spans, or want of memory
  pub record ListsSpans (old new : BookOf N D) (log : ℕ) (result : Result (Vec Span) Refused) : Type 0 where
    -- the hand was called to read words of the log, and for nothing else
    pub reads : Came (only (Reads log) makes) old.near new.near
    pub came : Came makes old.near new.near
    -- dead ones too, in their order
    pub spans : IfOk result (λ spans. spans.items ≡ spans_of (view old.near) log)
    pub refused : IfErr result (λ why. why ≡ Memory)
    -- words may have been learned, but no header; over a hand that is still none was
    pub kept : view new.near ≡ record (view old.near) { word = (view new.near).word }
    pub headers : (a : ℕ) → (view old.near).starts a ≡ true → (view new.near).word a ≡ (view old.near).word a
    pub exact : still → view new.near ≡ view old.near
    pub order : new.order ≡ old.order
    pub device : new.device ≡ old.device

  module _ (contents : D → ℕ → Option (List ℕ)) (is_honest : D → Bool) (faults : D → ℕ) (fails_at_most : D → ℕ → Type 0) (lets_go : D → ℕ → D → Type 0) (forgets : Type 0) where
    -- the cell of p's dropped object is freed
    pub record RetiresObject (old new : BookOf N D) (p : ℕ) : Type 0 where
      pub came : Came makes old.near new.near
      -- the cell is free, and the span, if it lay near, is dead; words may have been forgotten
      pub kept : view new.near ≡ record (retired (view old.near) p) { word = (view new.near).word }
      pub forgot : Forgets (view old.near) (view new.near)
      -- over a hand that is still none was
      pub exact : still → view new.near ≡ retired (view old.near) p
      pub order : new.order ≡ old.order
      -- the device was asked to let p's key go, and nothing else
      pub called : lets_go old.device p new.device
      pub gone : forgets → contents new.device p ≡ None
      pub follows : Follows contents is_honest faults fails_at_most (other_than p) false old.device new.device
      -- the action that this is
      pub ran : still → Does (view old.near) (Retires p) (view new.near)

    -- p's quiet near object is moved, or stays, without marks but DIRTY; or is retired, where its owner has dropped it, and the answer is none; or there is no room
    pub record MovesObject (old new : BookOf N D) (p : ℕ) (result : Result (Option Place) Refused) : Type 0 where
      pub came : Came makes old.near new.near
      -- it lies where it was to go, as far as the words are known; over a hand that is still that is all
      pub place : IfOk result (λ o. IfSome o (λ place. goal (view old.near) p ≡ Some place))
      pub moved : IfOk result (λ o. IfSome o (λ place. MovedBy (view old.near) (view new.near) p place))
      pub exact : still → IfOk result (λ o. IfSome o (λ place. view new.near ≡ moved_now (view old.near) p place))
      -- the log that was open is sealed, if it went to another
      pub order : IfOk result (λ o. MatchOption o (new.order ≡ old.order) (λ place. new.order ≡ order_moved (view old.near) p old.order place))
      pub device : IfOk result (λ o. IfSome o (λ _. new.device ≡ old.device))
      -- a drop that was known before is found
      pub asked : is_dropped (read_of ((view old.near).cell p)) ≡ true → result ≡ Ok None
      -- it is retired, and the device was asked to let its key go
      pub gone : IfOk result (λ o. IfNone o (IsRetired still (view old.near) (view new.near) p))
      pub called : IfOk result (λ o. IfNone o (lets_go old.device p new.device))
      pub forgotten : IfOk result (λ o. IfNone o (forgets → contents new.device p ≡ None))
      pub follows : Follows contents is_honest faults fails_at_most (other_than p) false old.device new.device
      -- a refusal is want of room: the object lies as before, and words may have been read
      pub refused : IfErr result (λ why. why ≡ NoRoom)
      pub none : IfErr result (λ _. goal (view old.near) p ≡ None)
      pub seen : IfErr result (λ _. IsSeen (view old.near) (view new.near) p)
      pub words : IfErr result (λ _. (view new.near).word ≡ (view old.near).word)
      pub kept : IfErr result (λ _. new ≡ record old { near = new.near })
      pub unchanged : still → IfErr result (λ _. view new.near ≡ view old.near)
      -- the action that this is
      pub ran : still → Does (view old.near) (Moves p result) (view new.near)

    -- p's object went far by one exchange, for the word that its cell had until then: if that says DIRTY, its bytes were written before; else the device was asked nothing
    pub record LeavesBy (writes : D → ℕ → List ℕ → Result (Unit {0}) DeviceFault → D → Type 0) (old new : BookOf N D) (p : ℕ) : Type 0 where
      pub before : N
      pub word : ℕ
      pub far : ℕ
      pub named : makes before (Name p word far) Done new.near
      pub dirty : is_dirty (read_of word) ≡ true → WritesIt D writes lets_go (view old.near) p old.device (Ok tt) new.device
      pub clean : is_dirty (read_of word) ≡ false → new.device ≡ old.device

    -- p's quiet near object with EVAC goes far; or is retired, where its owner has dropped it, and the answer is false; or that is refused
    pub record EvictsObject (writes : D → ℕ → List ℕ → Result (Unit {0}) DeviceFault → D → Type 0) (old new : BookOf N D) (p : ℕ) (result : Result Bool Refused) : Type 0 where
      pub came : Came makes old.near new.near
      -- it has gone far; over a hand that is still that is all
      pub far : result ≡ Ok true → GoesFar (view old.near) (view new.near) p
      pub away : still → result ≡ Ok true → view new.near ≡ evicted (view old.near) p
      pub left_by : result ≡ Ok true → LeavesBy writes old new p
      -- it is retired; words may have been learned and forgotten, and no known word is another
      pub gone : result ≡ Ok false → IsRetired still (view old.near) (view new.near) p
      pub freed : result ≡ Ok false → KeepsKnown (view old.near) (view new.near)
      -- a drop that was known before is found
      pub asked : is_dropped (read_of ((view old.near).cell p)) ≡ true → result ≡ Ok false
      pub alive : still → IfOk result (λ far. far ≡ not (is_dropped (read_of ((view old.near).cell p))))
      -- a refusal is the device's: the object lies as before, and words may have been read
      pub refused : IfErr result (λ why. (why ≡ Memory) ⊎ (why ≡ Device))
      pub kept : IfErr result (λ _. IsSeen (view old.near) (view new.near) p)
      pub same : still → IfErr result (λ _. view new.near ≡ view old.near)
      -- and it has DIRTY, as it was found last
      pub owed : IfErr result (λ _. is_dirty (read_of ((view new.near).cell p)) ≡ true)
      -- what the device was asked; it forgets the bytes of what is retired
      pub called : AsksToEvict D writes lets_go (view old.near) p result old.device new.device
      pub unasked : still → result ≡ Ok true → is_dirty (read_of ((view old.near).cell p)) ≡ false → new.device ≡ old.device
      pub forgotten : forgets → result ≡ Ok false → contents new.device p ≡ None
      pub follows : Follows contents is_honest faults fails_at_most (other_than p) (is_failure result) old.device new.device
      pub order : new.order ≡ old.order
      -- the action that this is
      pub ran : still → Does (view old.near) (Evicts p result) (view new.near)

    -- p's far object comes near; or is retired, where its owner has dropped it, and the answer is none; or that is refused
    pub record FetchesObject (reads : D → ℕ → Result (List ℕ) DeviceFault → D → Type 0) (reads_in_place : Type 0) (old new : BookOf N D) (p : ℕ) (result : Result (Option Place) Refused) : Type 0 where
      pub came : Came makes old.near new.near
      -- where room is, with one free log left, it lies now
      pub place : IfOk result (λ found. IfSome found (λ place. room_for (view old.near) p ≡ Some place))
      pub near : IfOk result (λ found. IfSome found (λ place. IsFetched still (view old.near).honest (view old.near) (view new.near) p place))
      -- it is retired, and no word of a span was learned
      pub gone : IfOk result (λ found. IfNone found (IsRetired still (view old.near) (view new.near) p))
      pub unread : IfOk result (λ found. IfNone found (LearnsNone (view old.near) (view new.near)))
      -- a drop that was known before is found
      pub asked : is_dropped (read_of ((view old.near).cell p)) ≡ true → result ≡ Ok None
      -- the log that was open is sealed, if it came to another
      pub order : IfOk result (λ found. new.order ≡ order_fetched (view old.near) old.order found)
      -- what the device was asked; it forgets the bytes of what is retired alone
      pub called : AsksToFetch D reads lets_go still (view old.near) (view new.near) p result old.device new.device
      pub forgot : forgets → IfOk result (λ found. IfNone found (contents new.device p ≡ None))
      pub still_held : IfOk result (λ found. IfSome found (λ _. contents new.device ≡ contents old.device))
      pub follows : Follows contents is_honest faults fails_at_most (other_than p) (is_failure result) old.device new.device
      -- why it is refused: a device that reads in place wants no memory, and without room none is asked
      pub refused : IfErr result (λ why. RefusesFetch why (room_for (view old.near) p) (is_honest old.device))
      pub in_place : reads_in_place → result ≢ Err Memory
      pub untouched : IfErr result (λ why. why ≡ NoRoom → new.device ≡ old.device)
      -- then the device holds what it held, the cell is known as it was found, and nothing else has changed
      pub held : IfErr result (λ _. contents new.device ≡ contents old.device)
      pub seen : IfErr result (λ _. IsSeen (view old.near) (view new.near) p)
      pub kept : IfErr result (λ _. (view new.near).word ≡ (view old.near).word)
      pub exact : still → IfErr result (λ _. view new.near ≡ view old.near)
      pub shut : IfErr result (λ _. new.order ≡ old.order)
      -- the action that this is
      pub ran : still → Does (view old.near) (Fetches p result) (view new.near)
