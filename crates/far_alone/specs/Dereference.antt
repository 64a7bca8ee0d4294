-- What a dereference makes of a heap's core: a pin, and where that gives no view, what brings the object to where one may rest, and a pin again.
use Rattle.std.specs.Prelude.{◌≡◌, ℕ, Bool, true, false, ◌&&◌, not, List, Option, Some, None, IsSome, is_some, if◌then◌else◌}
use Rattle.far_word.specs.declared.mark.Mark.TheVariants.{Moved}
use Rattle.far_word.specs.declared.pointer.Place.{Place}
use Rattle.far_word.specs.declared.pointer.PtrWord.{PtrWord}
use Rattle.far_word.specs.declared.pointer.PtrWord.TheVariants.{Free, Near, Far}
use Rattle.far_word.specs.declared.refused.Refused.{Refused as Refusal}
use Rattle.far_word.specs.declared.refused.Refused.TheVariants.{NoRoom, Device, Damaged}
use Rattle.far_word.specs.Pointer.{read_of}
use Rattle.far_events.specs.declared.event.Event.TheVariants.{Ask}
use Rattle.far_events.specs.events.Step.{after}
use Rattle.far_events.specs.state.State.{State}
use Rattle.far_book.specs.book.Dealing.{goal, moved_now, order_moved}
use Rattle.far_book.specs.book.Effects.{fetched, order_after}
use Rattle.far_book.specs.book.Fetching.{room_for}
use Rattle.far_alone.specs.Effects.{is_slow, with_view}

-- a cell says near
abbrev pub says_near : Option PtrWord → Bool
says_near None = false
says_near (Some Free) = false
says_near (Some (Near len ds place marks)) = true
says_near (Some (Far len ds marks)) = false

-- the owner of a near object asks for it to be moved
abbrev pub sought_of : State → ℕ → ℕ → Option PtrWord → State
sought_of s m p None = s
sought_of s m p (Some Free) = s
sought_of s m p (Some (Near len ds place marks)) = after s (Ask m p Moved)
sought_of s m p (Some (Far len ds marks)) = s

abbrev pub asked_for : State → ℕ → ℕ → State
asked_for s m p = sought_of s m p (read_of (s.cell p))

-- the first pin, which gave no view, and then the owner's asking
abbrev pub sought : State → ℕ → ℕ → State
sought s m p = asked_for (with_view s p) m p

-- where the object comes: near, where it lies or, with EVAC, where room is, in the last free log too; far, where room is that keeps the reserve
abbrev pub comes_to_of : State → ℕ → Option PtrWord → Option Place
comes_to_of s p None = None
comes_to_of s p (Some Free) = None
comes_to_of s p (Some (Near len ds place marks)) = goal s p
comes_to_of s p (Some (Far len ds marks)) = room_for s p

abbrev pub comes_to : State → ℕ → Option Place
comes_to s p = comes_to_of s p (read_of (s.cell p))

-- it has come there: near, it was moved, or its marks were taken; far, it was fetched, with the words that were stored
abbrev pub come_of : State → ℕ → Option Place → Option PtrWord → State
come_of s p None o = s
come_of s p (Some place) None = s
come_of s p (Some place) (Some Free) = s
come_of s p (Some place) (Some (Near len ds from marks)) = moved_now s p place
come_of s p (Some place) (Some (Far len ds marks)) = fetched s p place (s.stored p)

abbrev pub come : State → ℕ → State
come s p = come_of s p (comes_to s p) (read_of (s.cell p))

-- an object is dereferenced, whatever marks it has
abbrev pub dereferenced : State → ℕ → ℕ → State
dereferenced s m p = if is_slow s p then with_view (come (sought s m p) p) p else with_view s p

-- or there is no place for it
abbrev pub has_no_room : State → ℕ → ℕ → Bool
has_no_room s m p = is_slow s p && not (is_some (comes_to (sought s m p) p))

-- why an object that was asked for doesn't come, from s to t: there is no place; or there is, and the device failed, or gave another number of bytes. Nothing has changed then
abbrev pub RefusesBringing : State → ℕ → Refusal → State → Type 0
RefusesBringing s p NoRoom t = (comes_to s p ≡ None) × (t ≡ s)
RefusesBringing s p Device t = IsSome (comes_to s p) × (t ≡ s)
RefusesBringing s p Damaged t = IsSome (comes_to s p) × (t ≡ s)
RefusesBringing s p why t = ⊥

-- and so why an object isn't dereferenced: the pin and the owner's asking stay
abbrev pub RefusesView : State → ℕ → ℕ → Refusal → State → Type 0
RefusesView s m p why t = (is_slow s p ≡ true) × RefusesBringing (sought s m p) p why t

-- the sealed logs once an object has come to a place, oldest first: if another log was opened for it, the one that was open is the youngest
abbrev pub order_come_of : State → List ℕ → ℕ → Option Place → Option PtrWord → List ℕ
order_come_of s order p None o = order
order_come_of s order p (Some place) None = order
order_come_of s order p (Some place) (Some Free) = order
order_come_of s order p (Some place) (Some (Near len ds from marks)) = order_moved s p order place
order_come_of s order p (Some place) (Some (Far len ds marks)) = order_after s order place

abbrev pub order_come : State → List ℕ → ℕ → List ℕ
order_come s order p = order_come_of s order p (comes_to s p) (read_of (s.cell p))

abbrev pub order_dereferenced : State → List ℕ → ℕ → ℕ → List ℕ
order_dereferenced s order m p = if is_slow s p then order_come (sought s m p) order p else order
