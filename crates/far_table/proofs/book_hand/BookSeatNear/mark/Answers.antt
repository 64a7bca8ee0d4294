use Rattle.std.proofs.Common.{refl, ap}
use Rattle.far_table.specs.Layout.{cell_at}
use Rattle.far_table.specs.StateOf.{book_state}
use Rattle.far_table.proofs.BookSeatLemmas.{cell_inside, seat_keeps, seat_made, view_is}
use Rattle.far_table.proofs.BookSees.{marks}
use Rattle.far_table.proofs.SeatLemmas.{inside}
use Rattle.far_table.proofs.book_hand.BookSeatNear.mark.Goals as goal

pub fetch_or-requires : goal.fetch_or-requires
fetch_or-requires g c =
    let i = c.args.self.now.fits in
    let t = inside _ _ _ (cell_at c.args.pointer) i.same (ap (λ t. t.shared.table_id) c.deref.ensures) i.wide (cell_inside _ _ _ _ _ _ c.args.pointer i c.requires.legal.0) in
    (t.0, t.1, marks _ _ _ i.is_book i.plain c.args.pointer _ c.mask.ensures c.requires.legal)

pub invariant_of-self : goal.invariant_of-self
invariant_of-self g c =
    let i = c.args.self.now.fits in
    let h = c.fetch_or.ensures in
    let k = seat_keeps _ _ _ _ _ (h.2.1 c.args.pointer refl).1 _ _ _ _ _ _ i h.0 refl refl refl refl i.plain in record { fits = k.0; stands = k.1 }

pub returns-clause-kept : goal.returns-clause-kept
returns-clause-kept g c = ap book_state (view_is _ _ _ _ _ (c.fetch_or.ensures.2.1 c.args.pointer refl).1)

pub returns-clause-made : goal.returns-clause-made
returns-clause-made g c = (c.fetch_or.ensures.0, seat_made _ _ _ _ _ (c.fetch_or.ensures.2.1 c.args.pointer refl).1)
