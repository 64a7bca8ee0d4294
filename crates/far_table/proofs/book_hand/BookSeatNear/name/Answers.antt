use Rattle.std.proofs.Common.{◌≡◌, refl, sym, ap, subst}
use Rattle.far_events.specs.events.Step.{after}
use Rattle.far_events.specs.state.State.{State}
use Rattle.far_events.specs.declared.event.Event.TheVariants.{Name}
use Rattle.far_hand.specs.Finds.{Finds}
use Rattle.far_hand.specs.Known.{StoresLeaving}
use Rattle.far_table.specs.Layout.{cell_at}
use Rattle.far_table.specs.Stands.{book_of}
use Rattle.far_table.specs.StateOf.{book_state}
use Rattle.far_table.specs.View.{BookView}
use Rattle.far_table.proofs.BookSeatLemmas.{cell_inside, seat_forgets, seat_keeps, seat_made, view_is}
use Rattle.far_table.proofs.Exchanges.{book_lost, book_won}
use Rattle.far_table.proofs.NameSteps.{exchanged_keeps, exchanges, named_done, named_forgets}
use Rattle.far_table.proofs.SeatLemmas.{inside}
use Rattle.far_table.proofs.book_hand.BookSeatNear.name.Goals as goal

pub compare_exchange-found-requires : goal.compare_exchange-found-requires
compare_exchange-found-requires g c =
    let i = c.args.self.now.fits in
    let t = inside _ _ _ (cell_at c.args.pointer) i.same (ap (λ t. t.shared.table_id) c.deref.ensures) i.wide (cell_inside _ _ _ _ _ _ c.args.pointer i c.requires.legal.0) in
    (t.0, t.1, exchanges _ _ _ i.is_book i.plain c.args.pointer c.args.old c.args.new c.ranges.old.fits c.ranges.new.fits c.requires.legal c.requires.seen c.requires.known)

pub invariant_of-self : goal.invariant_of-self
invariant_of-self g c =
    let i = c.args.self.now.fits in
    let x = c.compare_exchange-found.ensures.2 c.args.pointer refl in
    let k = exchanged_keeps x.1 c.args.pointer c.args.old c.args.new c.compare_exchange-found.result (book_of c.args.self.now.seat.me.0) i.plain in
    let m = seat_keeps _ _ _ _ _ x.3 _ _ _ _ _ _ i c.compare_exchange-found.ensures.0 k.logs k.mutators k.epoch k.rest k.plain in record { fits = m.0; stands = m.1 }

pub returns-then-found-old-clause-made : goal.returns-then-found-old-clause-made
returns-then-found-old-clause-made g c =
    let x = c.compare_exchange-found.ensures.2 c.args.pointer refl in
    (c.compare_exchange-found.ensures.0, seat_made _ _ _ _ _ (book_won (λ (z : BookView). z) _ _ x.3 c.if-found-old.true))

pub returns-then-found-old-clause-done : goal.returns-then-found-old-clause-done
returns-then-found-old-clause-done g c =
    let b = book_of c.args.self.now.seat.me.0 in
    let x = c.compare_exchange-found.ensures.2 c.args.pointer refl in
    let t = book_won (λ (z : BookView). z) _ _ x.3 c.if-found-old.true in
    subst (λ (z : State). z ≡ record (after (book_state b) (Name c.args.pointer c.args.old c.args.new)) { word = z.word; stored = z.stored }) (sym (ap book_state (view_is _ _ _ _ _ t))) (named_done x.1 b c.args.pointer c.args.old c.args.new c.requires.legal c.requires.seen)

pub returns-then-found-old-clause-forgot : goal.returns-then-found-old-clause-forgot
returns-then-found-old-clause-forgot g c =
    let b = book_of c.args.self.now.seat.me.0 in
    let x = c.compare_exchange-found.ensures.2 c.args.pointer refl in
    let t = book_won (λ (z : BookView). z) _ _ x.3 c.if-found-old.true in
    seat_forgets _ _ _ _ _ t (named_forgets x.1 b c.args.pointer c.args.old c.args.new c.requires.legal c.requires.seen)

pub returns-then-found-old-clause-stored : goal.returns-then-found-old-clause-stored
returns-then-found-old-clause-stored g c =
    let b = book_of c.args.self.now.seat.me.0 in
    let x = c.compare_exchange-found.ensures.2 c.args.pointer refl in
    let t = book_won (λ (z : BookView). z) _ _ x.3 c.if-found-old.true in
    subst (λ (z : State). StoresLeaving (book_state b) z c.args.pointer c.args.old c.args.new) (sym (ap book_state (view_is _ _ _ _ _ t))) (x.2 c.if-found-old.true)

pub returns-else-found-old-clause-kept : goal.returns-else-found-old-clause-kept
returns-else-found-old-clause-kept g c =
    let x = c.compare_exchange-found.ensures.2 c.args.pointer refl in
    ap book_state (view_is _ _ _ _ _ (book_lost (λ (z : BookView). z) _ _ x.3 c.if-found-old.false))

pub returns-else-found-old-clause-found : goal.returns-else-found-old-clause-found
returns-else-found-old-clause-found g c = subst (λ v. Finds v c.compare_exchange-found.result) (sym c.requires.seen) (c.compare_exchange-found.ensures.2 c.args.pointer refl).0

pub returns-else-found-old-clause-lost : goal.returns-else-found-old-clause-lost
returns-else-found-old-clause-lost g c =
    let x = c.compare_exchange-found.ensures.2 c.args.pointer refl in
    (c.compare_exchange-found.ensures.0, seat_made _ _ _ _ _ (book_lost (λ (z : BookView). z) _ _ x.3 c.if-found-old.false))
