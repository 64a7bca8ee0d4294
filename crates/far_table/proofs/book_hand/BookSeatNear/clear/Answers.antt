use Rattle.std.proofs.Common.{◌≡◌, ◌-◌, ◌^◌, refl, sym, ap, subst}
use Rattle.far_hand.specs.Cleared.{cleared}
use Rattle.far_table.specs.View.{BookView}
use Rattle.far_table.specs.BookSeats.{book_in}
use Rattle.far_table.specs.BookViews.{cleared_view}
use Rattle.far_table.specs.Layout.{cell_at}
use Rattle.far_table.specs.StateOf.{book_state, known_word}
use Rattle.far_table.proofs.BookRounds.{cleared_kept, clears, forgets_all}
use Rattle.far_table.proofs.BookSeatLemmas.{cell_inside, seat_forgets, seat_keeps, seat_made, view_is}
use Rattle.far_table.proofs.SeatLemmas.{inside}
use Rattle.far_table.proofs.book_hand.BookSeatNear.clear.Goals as goal

pub fetch_and-requires : goal.fetch_and-requires
fetch_and-requires g c =
    let i = c.args.self.now.fits in
    let t = inside _ _ _ (cell_at c.args.pointer) i.same (ap (λ t. t.shared.table_id) c.deref.ensures) i.wide (cell_inside _ _ _ _ _ _ c.args.pointer i c.requires.legal.0) in
    (t.0, t.1, clears _ _ _ i.is_book i.plain c.args.pointer _ (ap (λ k. 2 ^ 64 - 1 - k) c.mask.ensures) c.requires.legal)

pub invariant_of-self : goal.invariant_of-self
invariant_of-self g c =
    let i = c.args.self.now.fits in
    let h = c.fetch_and.ensures in
    let k = seat_keeps _ _ _ _ _ (h.2.1 c.args.pointer refl).1 _ _ _ _ _ _ i h.0 refl refl refl refl (λ a _. refl) in record { fits = k.0; stands = k.1 }

pub returns-clause-found : goal.returns-clause-found
returns-clause-found g c = (c.fetch_and.ensures.2.1 c.args.pointer refl).0

pub returns-clause-kept : goal.returns-clause-kept
returns-clause-kept g c =
    let b : BookView = book_in c.args.self.now in
    let n = c.fetch_and.result in
    subst (λ (z : BookView). book_state z ≡ record (cleared (book_state b) c.args.pointer n) { word = known_word z }) (sym (view_is _ _ _ _ _ (c.fetch_and.ensures.2.1 c.args.pointer refl).1)) (cleared_kept b c.args.pointer n)

pub returns-clause-forgot : goal.returns-clause-forgot
returns-clause-forgot g c =
    let b : BookView = book_in c.args.self.now in
    seat_forgets _ _ _ _ _ (c.fetch_and.ensures.2.1 c.args.pointer refl).1 (forgets_all b (cleared_view c.args.pointer c.fetch_and.result b) refl refl)

pub returns-clause-made : goal.returns-clause-made
returns-clause-made g c = (c.fetch_and.ensures.0, seat_made _ _ _ _ _ (c.fetch_and.ensures.2.1 c.args.pointer refl).1)
