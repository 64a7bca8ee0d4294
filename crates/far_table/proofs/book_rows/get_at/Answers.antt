use Rattle.std.proofs.Common.{◌<◌, false, sym, ap, subst, arith}
use Rattle.atomic_table.specs.Seated.{TableId}
use Rattle.far_word.specs.declared.sizes.TheConstants.{LOG_WORDS}
use Rattle.far_hand.specs.Ranges.{Gets}
use Rattle.far_table.specs.Layout.{data_at}
use Rattle.far_table.specs.StateOf.{book_state}
use Rattle.far_table.specs.Stands.{book_of}
use Rattle.far_table.specs.View.{BookView}
use Rattle.far_table.proofs.BookRows.{gets_at}
use Rattle.far_table.proofs.BookSeatLemmas.{book_stays, got_shape, seat_made, stands_after, view_is}
use Rattle.far_table.proofs.book_rows.get_at.Goals as goal

pub load-requires : goal.load-requires
load-requires g c =
    let i = c.requires.part.3.fits in
    let h = c.requires.within in
    let same = ap (λ (z : TableId). z.words) i.same in
    let wide = i.wide in
    let many = i.logs_are in
    let address = c.requires.address in
    let inside : c.args.at < LOG_WORDS = omega (arith, h.1) in
    (i.same, omega (arith, same, wide, many, address, h.0, inside), gets_at _ _ _ i.is_book i.plain c.args.log c.args.at c.args.address inside address h.0)

pub returns : goal.returns
returns g c logs mutators epoch ok =
    let i = ok.fits in
    let inside : c.args.at < LOG_WORDS = omega (arith, c.requires.within.1) in
    let t = c.load.ensures.2 c.args.log c.args.at inside (ap data_at c.requires.address) in record {
      fits = c.load.type_inv;
      gets = subst (λ (z : BookView). Gets (book_state (book_of c.args.seat.now.me.0)) (book_state z) c.args.log c.args.at false c.load.result) (sym (view_is _ _ _ _ _ t.2)) t.0;
      exact = λ still. absurd still;
      same = λ still. absurd still;
      made = (c.load.ensures.0, seat_made _ _ _ _ _ t.2, record { fits = book_stays _ _ _ _ _ t.2 _ _ _ _ _ _ _ i c.load.ensures.0 (got_shape _ _ _ _ _ _ _ _ _ i t.1); stands = stands_after _ _ _ _ _ t.2 });
    }
