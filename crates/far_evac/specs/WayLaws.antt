-- How the k-th object is dealt with, in the subject's words: by its marks, and by the room that there is then.
use Rattle.std.specs.Prelude.{◌≡◌, ℕ, ◌+◌, true, false, Some, None, List, ◌∷◌, drop}
use Rattle.far_word.specs.declared.mark.Marks.{Marks}
use Rattle.far_word.specs.declared.pointer.Place.{Place}
use Rattle.far_word.specs.declared.pointer.PtrWord.TheVariants.{Near, Far}
use Rattle.far_word.specs.Pointer.{read_of}
use Rattle.far_word.specs.Sizes.{size_of}
use Rattle.far_events.specs.events.Naming.{no_marks, unmarked}
use Rattle.far_core.specs.state.Room.{room}
use Rattle.far_events.specs.state.State.{State}
use Rattle.far_book.specs.book.Jobs.{has_job}
use Rattle.far_book.specs.book.Offering.{IsLowestEmpty, NoneEmpty, offered}
use Rattle.far_evac.specs.AnyHand.{KnowsWalked}
use Rattle.far_evac.specs.Beside.{DealsBeside, End, OverObjects}
use Rattle.far_evac.specs.Dealings.{says}
use Rattle.far_evac.specs.Live.{live_among}
use Rattle.far_evac.specs.Moment.{Moment, with_placed}
use Rattle.far_evac.specs.Ready.{Ready}
use Rattle.far_evac.specs.Walk.{Drops, Goes, Moves, Walked, dealt_so, walked}

-- s is the state before an object with these marks is dealt with, t the moment then. One that its owner dropped has no cell any more; a cold one is far; a
-- hot one lies where there was room for it, the last free log too, and is far where there was none. No mark is left but DIRTY of what lies near, as it was
pub record GoesItsWay (s : State) (t : Moment) (p len ds : ℕ) (marks : Marks) : Type 0 where
  pub dropped : marks.dropped ≡ true → t.core.cell p ≡ 0
  pub cold : marks.dropped ≡ false → marks.hot ≡ false → says t p ≡ Some (Far len ds no_marks)
  pub crowded : marks.dropped ≡ false → marks.hot ≡ true → room s (size_of len) false ≡ None → says t p ≡ Some (Far len ds no_marks)
  pub hot : (to : Place) → marks.dropped ≡ false → marks.hot ≡ true → room s (size_of len) false ≡ Some to → says t p ≡ Some (Near len ds to (unmarked marks.dirty))

-- the object that k live ones stand before, by what its cell said when the walk began
abbrev pub ObjectsGoTheirWay : Type 0
ObjectsGoTheirWay = (m : Moment) (k p len ds : ℕ) (from : Place) (marks : Marks) (rest : List ℕ) → Ready m.core m.collection → drop k (live_among m.core m.collection) ≡ p ∷ rest →
    says m p ≡ Some (Near len ds from marks) → GoesItsWay (walked m k).moment.core (walked m (k + 1)).moment p len ds marks

-- where copies may be offered, from w to t an object of this length with these marks was dealt with. One that its owner dropped is retired, and a cold one goes far; so does a hot
-- one, if there is no room. Else the copy of a hot one is offered by the lowest empty job to where there is room for it, the last free log too; if no job is empty it moves there
pub record GoesBesideCopiers (w t : Walked) (p len : ℕ) (marks : Marks) : Type 0 where
  pub dropped : marks.dropped ≡ true → KnowsWalked (dealt_so w p Drops) t
  pub cold : marks.dropped ≡ false → marks.hot ≡ false → KnowsWalked (dealt_so w p Goes) t
  pub crowded : marks.dropped ≡ false → marks.hot ≡ true → room w.moment.core (size_of len) false ≡ None → KnowsWalked (dealt_so w p Goes) t
  pub offers : (j : ℕ) (to : Place) → marks.dropped ≡ false → marks.hot ≡ true → room w.moment.core (size_of len) false ≡ Some to → IsLowestEmpty w.moment.core j →
      KnowsWalked (record w { moment = with_placed w.moment to (offered w.moment.core j p to) }) t
  pub moves : (to : Place) → marks.dropped ≡ false → marks.hot ≡ true → room w.moment.core (size_of len) false ≡ Some to → NoneEmpty w.moment.core → KnowsWalked (dealt_so w p (Moves to)) t

-- by what was found in its cell, whatever else that says
abbrev pub ObjectsGoBesideCopiers : Type 0
ObjectsGoBesideCopiers = (w t : Walked) (p len ds : ℕ) (from : Place) (marks : Marks) (h : DealsBeside (Unit {0}) (λ s q dealing old new. Unit {0}) w p t tt tt) →
    read_of h.word ≡ Some (Near len ds from marks) → GoesBesideCopiers w t p len marks

-- an object that has a job that isn't void is passed over, dropped or not, and however many may be dealt with yet
abbrev pub JobsArePassedOver : Type 0
JobsArePassedOver = (w t : Walked) (p : ℕ) (ps : List ℕ) (n more : ℕ) (end : End) → has_job w.moment.core p ≡ true →
    OverObjects (Unit {0}) (λ s q dealing old new. Unit {0}) (λ s q why old new. Unit {0}) (p ∷ ps) n w t more end tt tt →
    OverObjects (Unit {0}) (λ s q dealing old new. Unit {0}) (λ s q why old new. Unit {0}) ps n w t more end tt tt
