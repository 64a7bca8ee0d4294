use Rattle.std.proofs.Common.{◌+◌, ◌*◌, true, refl, sym, ap, subst}
use Rattle.far_word.specs.declared.sizes.TheConstants.{LOG_WORDS}
use Rattle.far_hand.specs.Ranges.{Gets}
use Rattle.far_table.specs.View.{BookView}
use Rattle.far_table.specs.BookSeats.{book_in}
use Rattle.far_table.specs.Layout.{data_at}
use Rattle.far_table.specs.StateOf.{book_state}
use Rattle.far_table.proofs.BookSeatLemmas.{seat_keeps, seat_made, view_is, word_inside}
use Rattle.far_table.proofs.BookWords.{frees_log}
use Rattle.far_table.proofs.SeatLemmas.{inside}
use Rattle.far_table.proofs.book.BookSeat.free.Goals as goal

pub load-requires : goal.load-requires
load-requires g c =
    let i = c.args.self.now.fits in
    let h = c.requires.legal in
    let t = inside _ _ _ (data_at (c.args.log * LOG_WORDS + c.args.at)) i.same (ap (λ t. t.shared.table_id) c.deref.ensures) i.wide (word_inside _ _ _ _ _ _ c.args.log c.args.at i h.0 h.1) in
    (t.0, t.1, frees_log _ _ _ i.is_book i.plain c.args.log c.args.at h.1 h)

pub invariant_of-self : goal.invariant_of-self
invariant_of-self g c =
    let i = c.args.self.now.fits in
    let h = c.load.ensures in
    let k = seat_keeps _ _ _ _ _ (h.2 c.args.log c.args.at c.requires.legal.1 refl).1 _ _ _ _ _ _ i h.0 refl refl refl refl (λ a _. refl) in record { fits = k.0; stands = k.1 }

pub returns-clause-gets : goal.returns-clause-gets
returns-clause-gets g c =
    let t = c.load.ensures.2 c.args.log c.args.at c.requires.legal.1 refl in
    subst (λ (z : BookView). Gets (book_state (book_in c.args.self.now)) (book_state z) c.args.log c.args.at true c.load.result) (sym (view_is _ _ _ _ _ t.1)) t.0

pub returns-clause-made : goal.returns-clause-made
returns-clause-made g c = (c.load.ensures.0, seat_made _ _ _ _ _ (c.load.ensures.2 c.args.log c.args.at c.requires.legal.1 refl).1)
