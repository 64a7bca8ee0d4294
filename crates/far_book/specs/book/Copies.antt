-- What the book's calls on jobs promise, each in one record, of the book before and after the call.
use Rattle.std.specs.Prelude.{◌≡◌, ◌⊎◌, ◌↔◌, ◌≤◌, ℕ, Bool, true, false, None}
use Rattle.far_word.specs.declared.sizes.TheConstants.{JOBS}
use Rattle.far_events.specs.declared.event.Event.{Event}
use Rattle.far_events.specs.declared.event.Reply.{Reply}
use Rattle.far_events.specs.state.State.{State}
use Rattle.far_hand.specs.Came.{Came}
use Rattle.far_book.specs.book.BookOf.{BookOf}
use Rattle.far_book.specs.book.Collecting.{Collects, TakesBack, all_back, all_collected}
use Rattle.far_book.specs.book.Dealing.{goal}
use Rattle.far_book.specs.book.Fetching.{order_fetched}
use Rattle.far_book.specs.book.Offering.{IsLookedAt, NoneEmpty, OffersCopy, OffersOnly}
use Rattle.far_book.specs.book.Own.{HasNoJob}

module _ {N D : Type 0} (still : Type 0) (view : N → State) (makes : N → Event → Reply → N → Type 0) where
  -- the copy of p's object is offered; or no job is empty, or there is no room
  pub record OffersObject (old new : BookOf N D) (p : ℕ) (result : Bool) : Type 0 where
    pub came : Came makes old.near new.near
    -- by the lowest empty job, to where it would move
    pub offers : result ≡ true → OffersCopy (view old.near) (view new.near) p
    -- over a hand that is still, nothing else
    pub exact : still → result ≡ true → OffersOnly (view old.near) (view new.near) p
    -- the log that was open is sealed, if the copy comes to another
    pub order : result ≡ true → new.order ≡ order_fetched (view old.near) old.order (goal (view old.near) p)
    pub none : (result ≡ false) ↔ (NoneEmpty (view old.near) ⊎ (goal (view old.near) p ≡ None))
    -- then nothing has changed but that the cell may be known as it was found
    pub looked : result ≡ false → IsLookedAt (view old.near) (view new.near) p
    pub same : still → result ≡ false → view new.near ≡ view old.near
    pub shut : result ≡ false → new.order ≡ old.order
    pub device : new.device ≡ old.device

  -- the jobs went as they were found, one after the other, and so many were named
  pub record CollectsJobs (old new : BookOf N D) (count : ℕ) : Type 0 where
    pub came : Came makes old.near new.near
    pub collects : Collects (view old.near) JOBS (view new.near) count
    -- over a hand that is still as they were known
    pub exact : still → all_collected (view old.near) JOBS ≡ (view new.near, count)
    pub most : count ≤ JOBS
    -- if every job is empty, nothing has changed
    pub unoffered : HasNoJob (view old.near) → (new ≡ old) × (count ≡ 0)
    pub order : new.order ≡ old.order
    pub device : new.device ≡ old.device

  -- the jobs were looked at, one after the other, and those that were found offered are empty
  pub record TakesJobsBack (old new : BookOf N D) : Type 0 where
    pub came : Came makes old.near new.near
    pub takes : TakesBack (view old.near) JOBS (view new.near)
    pub exact : still → view new.near ≡ all_back (view old.near) JOBS
    pub unoffered : HasNoJob (view old.near) → new ≡ old
    pub order : new.order ≡ old.order
    pub device : new.device ≡ old.device
