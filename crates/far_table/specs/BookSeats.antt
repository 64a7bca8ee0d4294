-- What a contract sees of the book's seat.
use Rattle.std.specs.Prelude.{◌≡◌, ◌+◌, ℕ, Bool, true, false, List, refl}
use Rattle.std.proofs.Common.{◌∙◌, ap, sym, subst}
use Rattle.std.proofs.Math.Logic.{∥∥₁_map}
use Rattle.atomic_table.specs.Seated.{TableId}
use Rattle.far_word.specs.declared.sizes.TheConstants.{EPOCH_END}
use Rattle.far_events.specs.declared.event.Event.{Event}
use Rattle.far_events.specs.declared.event.Event.TheVariants.{Advance}
use Rattle.far_events.specs.declared.event.Reply.{Reply}
use Rattle.far_events.specs.declared.event.Reply.TheVariants.{Refused}
use Rattle.far_events.specs.state.Law.{Law}
use Rattle.far_events.specs.state.State.{State}
use Rattle.far_hand.specs.Makers.{Maker, ByBook, ByCopier, ByOwner, maker}
use Rattle.far_hand.specs.MayBe.{Made, Shows, Tells}
use Rattle.far_hand.proofs.Making.{spent_made}
use Rattle.far_table.specs.declared.book.BookSeat.{BookSeat}
use Rattle.far_table.specs.View.{BookView, OtherViews}
use Rattle.far_table.specs.BookTells.{BookMade}
use Rattle.far_table.specs.Rule.{Facts}
use Rattle.far_table.specs.Stands.{Stands, book_of}
use Rattle.far_table.specs.StateOf.{book_state, state_of}

-- the table that it is of
abbrev pub table_of : {D : Type 0} → BookSeat D → TableId
table_of s = s.seat.table_id

-- its view
abbrev pub book_in : {D : Type 0} → BookSeat D → BookView
book_in s = book_of s.seat.me.0

-- a state that words and all others' views make beside this view of the book, for which the rule holds
pub record MayBe (b : BookView) (x : State) : Type 0 where
  pub words : List ℕ
  pub others : OtherViews
  pub facts : Facts words b others
  pub is : x ≡ state_of words b others

-- the events of copiers
abbrev pub is_copier : Maker → Bool
is_copier ByBook = false
is_copier (ByOwner m) = false
is_copier (ByCopier c) = true

abbrev pub is_copiers : Event → Bool
is_copiers e = is_copier (maker e)

-- ---- the seat as a hand
abbrev pub seat_view : {D : Type 0} → BookSeat D → State
seat_view s = book_state (book_in s)

abbrev pub seat_may_be : {D : Type 0} → BookSeat D → State → Type 0
seat_may_be s = MayBe (book_in s)

-- the seat is of the same table, and the event was made, which the rule allows; where no epoch is left nothing happened
abbrev pub seat_makes : {D : Type 0} → BookSeat D → Event → Reply → BookSeat D → Type 0
seat_makes s e Refused t = (t ≡ s) × (logs : ℕ) × (e ≡ Advance logs) × ((book_in s).epoch + 1 ≡ EPOCH_END)
seat_makes s e r t = (table_of t ≡ table_of s) × BookMade e (book_in s) r (book_in t)

pub seat_lawful : {D : Type 0} (s : BookSeat D) (x : State) → seat_may_be s x → Law x
seat_lawful s x may = subst Law (sym may.is) may.facts.law

pub seat_shown : {D : Type 0} (s : BookSeat D) (x : State) → seat_may_be s x → Shows (seat_view s) x
seat_shown s x may = subst (Shows (seat_view s)) (sym may.is) may.facts.book.shown

stands_may : (b : BookView) (h : Stands b) → MayBe b (state_of h.words b h.others)
stands_may b h = record { words = h.words; others = h.others; facts = h.facts; is = refl }

pub seat_there : {D : Type 0} (s : BookSeat D) → ∥ ((x : State) × seat_may_be s x) ∥₁
seat_there s = ∥∥₁_map s.stands (λ (h : Stands (book_in s)). (state_of h.words (book_in s) h.others, stands_may (book_in s) h))

pub seat_alone : {D : Type 0} (s : BookSeat D) → ⊥ → (x : State) → seat_may_be s x → x ≡ seat_view s
seat_alone s still x may = absurd still

made_tells : (b b' : BookView) (e : Event) (r : Reply) → BookMade e b r b' → Tells (MayBe b) (MayBe b') e r
made_tells b b' e r m = record {
  was = state_of m.words b m.others;
  now = state_of m.later b' m.others;
  might = record { words = m.words; others = m.others; facts = m.facts; is = refl };
  may = record { words = m.later; others = m.others; facts = m.keeps; is = refl };
  call = m.call;
}

-- in the last epoch no round begins
spent : (b : BookView) (h : Stands b) (logs : ℕ) → b.epoch + 1 ≡ EPOCH_END → Made (state_of h.words b h.others) (Advance logs) Refused (state_of h.words b h.others)
spent b h logs last = let x = state_of h.words b h.others in spent_made x x logs h.facts.law refl (ap (λ (z : State). z.epoch + 1) h.facts.book.shown.rest ∙ last)

refused_tells : (b b' : BookView) (e : Event) (logs : ℕ) → b' ≡ b → e ≡ Advance logs → b.epoch + 1 ≡ EPOCH_END → Stands b → Tells (MayBe b) (MayBe b') e Refused
refused_tells b b' e logs same is last h =
    let x = state_of h.words b h.others in record {
      was = x;
      now = x;
      might = stands_may b h;
      may = subst (λ z. MayBe z x) (sym same) (stands_may b h);
      call = subst (λ z. Made x z Refused x) (sym is) (spent b h logs last);
    }

pub seat_told : {D : Type 0} (s t : BookSeat D) (e : Event) (r : Reply) → seat_makes s e r t → ∥ Tells (seat_may_be s) (seat_may_be t) e r ∥₁
seat_told s t e Refused m = ∥∥₁_map s.stands (λ (h : Stands (book_in s)). refused_tells (book_in s) (book_in t) e m.1 (ap book_in m.0) m.2 m.3 h)
seat_told s t e r m = ∣ made_tells (book_in s) (book_in t) e r m.1 ∣₁
