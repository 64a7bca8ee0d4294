use Rattle.std.proofs.Common.{◌≡◌, ℕ, true, subst}
use Rattle.far_events.specs.state.Law.{Law}
use Rattle.far_events.specs.state.State.{State}
use Rattle.far_hand.specs.MayBe.{NoneViews, ViewsNone}
use Rattle.far_table.specs.declared.book.BookSeat.{BookSeat}
use Rattle.far_table.specs.BookSeats.{seat_may_be, seat_view}
use Rattle.far_book.specs.book.FarSide.{HoldsFar}
use Rattle.far_book.specs.book.Own.{own_part}
use Rattle.far_evac.specs.EvacOf.{EvacOf, moment}
use Rattle.far_evac.specs.MomentLaw.{MomentLaw, has_risen}
use Rattle.far_evac.specs.RoundSteps.{among}
use Rattle.far_evac.specs.declared.phase.Phase.TheVariants.{Evacuating}
use Rattle.far_heap.specs.HeapId.{heap_of}
use Rattle.far_heap.proofs.evacuator.Evacuator.stands.Goals as goal

pub returns-clause-named : goal.returns-clause-named
returns-clause-named g c = subst (λ (e : EvacOf (BookSeat g.row.D.Denot) g.row.D.Denot). heap_of e.copying e.book.near ≡ g.K.HeapName.heap) c.self.view_is c.self.invariant

pub returns-clause-law : goal.returns-clause-law
returns-clause-law g c = subst (λ (e : EvacOf (BookSeat g.row.D.Denot) g.row.D.Denot). Law (own_part (seat_view e.book.near))) c.self.view_is c.keeps_law.ensures.law

pub returns-clause-moment : goal.returns-clause-moment
returns-clause-moment g c = subst (λ (e : EvacOf (BookSeat g.row.D.Denot) g.row.D.Denot). MomentLaw (moment seat_view e)) c.self.view_is c.keeps_law.ensures.moment

pub returns-clause-far : goal.returns-clause-far
returns-clause-far g c = subst (λ (e : EvacOf (BookSeat g.row.D.Denot) g.row.D.Denot). HoldsFar (seat_view e.book.near) (g.D.Device.contents e.book.device)) c.self.view_is c.keeps_law.ensures.far

pub returns-clause-honest : goal.returns-clause-honest
returns-clause-honest g c = subst (λ (e : EvacOf (BookSeat g.row.D.Denot) g.row.D.Denot). (seat_view e.book.near).honest ≡ true → g.D.Device.honest e.book.device ≡ true) c.self.view_is c.keeps_law.ensures.honest

pub returns-clause-leaving : goal.returns-clause-leaving
returns-clause-leaving g c = subst (λ (e : EvacOf (BookSeat g.row.D.Denot) g.row.D.Denot). e.phase ≡ Evacuating → (x : State) → seat_may_be e.book.near x → NoneViews (among e.collection) x) c.self.view_is c.keeps_law.ensures.leaving

pub returns-clause-waiting : goal.returns-clause-waiting
returns-clause-waiting g c = subst (λ (e : EvacOf (BookSeat g.row.D.Denot) g.row.D.Denot). has_risen e.phase ≡ true → (x : State) → seat_may_be e.book.near x → (m : ℕ) → (seat_view e.book.near).clear m ≡ true → ViewsNone (among e.collection) m x) c.self.view_is c.keeps_law.ensures.waiting
