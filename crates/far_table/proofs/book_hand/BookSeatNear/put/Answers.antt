use Rattle.std.proofs.Common.{◌+◌, ◌*◌, refl, ap, ◌∙◌}
use Rattle.far_word.specs.declared.sizes.TheConstants.{LOG_WORDS}
use Rattle.far_table.specs.BookSeats.{book_in}
use Rattle.far_table.specs.Layout.{data_at}
use Rattle.far_table.specs.StateOf.{book_state}
use Rattle.far_table.proofs.BookKnown.{plain_more}
use Rattle.far_table.proofs.BookSeatLemmas.{seat_keeps, seat_made, view_is, word_inside}
use Rattle.far_table.proofs.BookWords.{put_after, writes_word}
use Rattle.far_table.proofs.SeatLemmas.{inside}
use Rattle.far_table.proofs.book_hand.BookSeatNear.put.Goals as goal

pub store-requires : goal.store-requires
store-requires g c =
    let i = c.args.self.now.fits in
    let h = c.requires.legal in
    let t = inside _ _ _ (data_at (c.args.log * LOG_WORDS + c.args.at)) i.same (ap (λ t. t.shared.table_id) c.deref.ensures) i.wide (word_inside _ _ _ _ _ _ c.args.log c.args.at i h.0 h.3) in
    (t.0, t.1, writes_word _ _ _ i.is_book i.plain c.args.log c.args.at h.3 c.args.word c.ranges.word.fits h)

pub invariant_of-self : goal.invariant_of-self
invariant_of-self g c =
    let i = c.args.self.now.fits in
    let h = c.store.ensures in
    let k = seat_keeps _ _ _ _ _ (h.2 c.args.log c.args.at c.requires.legal.3 refl).1 _ _ _ _ _ _ i h.0 refl refl refl refl (plain_more (book_in c.args.self.now) (c.args.log * LOG_WORDS + c.args.at) c.args.word i.plain c.ranges.word.fits) in record { fits = k.0; stands = k.1 }

pub returns-clause-set : goal.returns-clause-set
returns-clause-set g c =
    let h = c.store.ensures.2 c.args.log c.args.at c.requires.legal.3 refl in
    ap book_state (view_is _ _ _ _ _ h.1) ∙ put_after (book_in c.args.self.now) c.args.log c.args.at c.args.word h.0

pub returns-clause-made : goal.returns-clause-made
returns-clause-made g c = (c.store.ensures.0, seat_made _ _ _ _ _ (c.store.ensures.2 c.args.log c.args.at c.requires.legal.3 refl).1)
