use Rattle.std.proofs.Common.{◌+◌, ◌*◌, ◌<◌, ◌∙◌, refl, ap, arith}
use Rattle.atomic_table.specs.Seated.{TableId}
use Rattle.far_word.specs.declared.sizes.TheConstants.{LOG_WORDS}
use Rattle.far_table.specs.Layout.{data_at}
use Rattle.far_table.specs.StateOf.{book_state}
use Rattle.far_table.specs.Stands.{book_of}
use Rattle.far_table.proofs.BookKnown.{plain_more}
use Rattle.far_table.proofs.BookRows.{puts_at}
use Rattle.far_table.proofs.BookSeatLemmas.{seat_keeps, seat_made, view_is}
use Rattle.far_table.proofs.BookWords.{put_after}
use Rattle.far_table.proofs.book_rows.put_at.Goals as goal

pub store-requires : goal.store-requires
store-requires g c =
    let i = c.requires.part.3.fits in
    let h = c.requires.past in
    let same = ap (λ (z : TableId). z.words) i.same in
    let wide = i.wide in
    let many = i.logs_are in
    let address = c.requires.address in
    let inside : c.args.at < LOG_WORDS = omega (arith, h.3) in
    (i.same, omega (arith, same, wide, many, address, h.0, inside), puts_at _ _ _ i.is_book i.plain c.args.log c.args.at c.args.address inside address c.args.word c.ranges.word.fits (h.0, h.1, h.2, inside))

pub returns : goal.returns
returns g c logs mutators epoch ok =
    let i = ok.fits in
    let inside : c.args.at < LOG_WORDS = omega (arith, c.requires.past.3) in
    let b = book_of c.args.seat.now.me.0 in
    let a = c.args.log * LOG_WORDS + c.args.at in
    let t = c.store.ensures.2 c.args.log c.args.at inside (ap data_at c.requires.address) in
    let k = seat_keeps _ _ _ _ _ t.1 _ _ _ _ _ _ i c.store.ensures.0 refl refl refl refl (plain_more b a c.args.word i.plain c.ranges.word.fits) in record {
      set = ap book_state (view_is _ _ _ _ _ t.1) ∙ put_after b c.args.log c.args.at c.args.word t.0;
      made = (c.store.ensures.0, seat_made _ _ _ _ _ t.1, record { fits = k.0; stands = k.1 });
    }
