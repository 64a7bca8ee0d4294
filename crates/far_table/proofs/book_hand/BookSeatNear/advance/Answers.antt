use Rattle.std.proofs.Common.{◌+◌, refl, ap, arith}
use Rattle.far_table.specs.View.{BookView}
use Rattle.far_table.specs.BookSeats.{book_in}
use Rattle.far_table.specs.BookViews.{raised_view}
use Rattle.far_table.specs.Layout.{EPOCH_AT}
use Rattle.far_table.proofs.BookRounds.{advances, forgets_all}
use Rattle.far_table.proofs.BookSeatLemmas.{book_stays, seat_forgets, seat_kept, seat_made, stands_after}
use Rattle.far_table.proofs.SeatLemmas.{inside}
use Rattle.far_table.proofs.book_hand.BookSeatNear.advance.Goals as goal

pub compare_exchange_with-requires : goal.compare_exchange_with-requires
compare_exchange_with-requires g c =
    let i = c.args.self.now.fits in
    let t = inside _ _ _ EPOCH_AT i.same (ap (λ t. t.shared.table_id) c.deref.ensures) i.wide (omega arith) in
    let below = i.epoch_below in
    let ne = c.if-next-eq-EPOCH_END.false in
    (t.0, t.1, advances _ _ _ i.is_book c.args.logs _ i.epoch_is (omega arith) c.requires.chosen)

pub invariant_of-self : goal.invariant_of-self
invariant_of-self g c =
    let i = c.args.self.now.fits in
    let h = c.compare_exchange_with.ensures in
    let t = h.2 c.args.logs refl in
    let below = i.epoch_below in
    let ne = c.if-next-eq-EPOCH_END.false in record {
      fits = book_stays _ _ _ _ _ t _ _ _ _ _ _ _ i h.0 record { logs = refl; mutators = refl; epoch_is = ap (λ e. e + 1) i.epoch_is; below = omega arith; rest = refl; plain = λ a _. refl };
      stands = stands_after _ _ _ _ _ t;
    }

pub returns-clause-kept : goal.returns-clause-kept
returns-clause-kept g c = seat_kept _ _ _ _ _ (c.compare_exchange_with.ensures.2 c.args.logs refl) refl

pub returns-clause-forgot : goal.returns-clause-forgot
returns-clause-forgot g c =
    let b : BookView = book_in c.args.self.now in
    seat_forgets _ _ _ _ _ (c.compare_exchange_with.ensures.2 c.args.logs refl) (forgets_all b (raised_view c.args.logs b) refl refl)

pub returns-clause-made : goal.returns-clause-made
returns-clause-made g c = (c.compare_exchange_with.ensures.0, seat_made _ _ _ _ _ (c.compare_exchange_with.ensures.2 c.args.logs refl))
