-- A book that came of another by its own calls is of the same heap.
use Rattle.std.proofs.Common.{◌≡◌, Bool, ap, sym, subst, ◌∙◌}
use Rattle.far_events.specs.declared.event.Event.{Event}
use Rattle.far_events.specs.declared.event.Reply.{Reply}
use Rattle.far_events.specs.declared.event.Reply.TheVariants.{Done, Epoch, Held, Refused, Word}
use Rattle.far_events.specs.state.State.{State}
use Rattle.far_core.proofs.Owing.{owed}
use Rattle.far_hand.specs.Came.{Came}
use Rattle.far_hand.proofs.Closure.{came_keeps}
use Rattle.far_table.specs.declared.book.BookSeat.{BookSeat}
use Rattle.far_table.specs.BookSeats.{book_in, seat_makes, table_of}
use Rattle.far_table.specs.BookTells.{BookMade}
use Rattle.far_table.specs.StateOf.{state_of}
use Rattle.far_evac.specs.EvacOf.{EvacOf}
use Rattle.far_heap.specs.HeapId.{HeapId, heap_of}

module _ {D : Type 0} (heap : HeapId) where
  module _ (copying : Bool) where
    -- an event leaves size and honesty
    one_event : (s t : BookSeat D) (e : Event) (r : Reply) → table_of t ≡ table_of s → BookMade e (book_in s) r (book_in t) → heap_of copying t ≡ heap_of copying s
    one_event s t e r same made =
        let rest = ((owed e).within (state_of made.words (book_in s) made.others)).rest in
        let is = sym made.becomes in
        let logs : (book_in t).logs ≡ (book_in s).logs = ap (λ (z : State). z.logs) is ∙ rest.1 in
        let mutators : (book_in t).mutators ≡ (book_in s).mutators = ap (λ (z : State). z.mutators) is ∙ rest.0 in
        let honest : (book_in t).honest ≡ (book_in s).honest = ap (λ (z : State). z.honest) is ∙ rest.2 in
        λ i. record { table = same i; logs = logs i; mutators = mutators i; honest = honest i; copying = copying }

    one_call : (s t : BookSeat D) (e : Event) (r : Reply) → seat_makes s e r t → heap_of copying s ≡ heap → heap_of copying t ≡ heap
    one_call s t e Refused made is = ap (heap_of copying) made.0 ∙ is
    one_call s t e Done made is = one_event s t e Done made.0 made.1 ∙ is
    one_call s t e (Epoch n) made is = one_event s t e (Epoch n) made.0 made.1 ∙ is
    one_call s t e (Word n) made is = one_event s t e (Word n) made.0 made.1 ∙ is
    one_call s t e (Held place) made is = one_event s t e (Held place) made.0 made.1 ∙ is

    seat_named : (s t : BookSeat D) → Came seat_makes s t → heap_of copying s ≡ heap → heap_of copying t ≡ heap
    seat_named s t came is = came_keeps seat_makes (λ z. heap_of copying z ≡ heap) one_call s t came is

  pub stays_named : (e f : EvacOf (BookSeat D) D) → Came seat_makes e.book.near f.book.near → f.copying ≡ e.copying → heap_of e.copying e.book.near ≡ heap → heap_of f.copying f.book.near ≡ heap
  stays_named e f came same is = subst (λ copying. heap_of copying f.book.near ≡ heap) (sym same) (seat_named e.copying e.book.near f.book.near came is)

  -- by the heap's own word for whether it has copiers
  pub named_alone : (e : EvacOf (BookSeat D) D) → heap_of e.copying e.book.near ≡ heap → heap_of heap.copying e.book.near ≡ heap
  named_alone e is = subst (λ copying. heap_of copying e.book.near ≡ heap) (ap (λ (h : HeapId). h.copying) is) is
