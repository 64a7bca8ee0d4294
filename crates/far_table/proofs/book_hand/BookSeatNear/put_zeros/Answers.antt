use Rattle.std.proofs.Common.{◌≡◌, refl, sym, ap, subst}
use Rattle.std.specs.Arc.{arc_value}
use Rattle.atomic_table.specs.Seated.{TableId}
use Rattle.far_hand.specs.Ranges.{WritesRow}
use Rattle.far_table.specs.BookRows.{PartOk, part_makes, part_view}
use Rattle.far_table.specs.BookSeats.{seat_makes, seat_view}
use Rattle.far_table.proofs.BookRows.{writes_lift, writes_ok, own_part}
use Rattle.far_table.proofs.book_hand.BookSeatNear.put_zeros.Goals as goal

pub zero_all-requires : goal.zero_all-requires
zero_all-requires g c =
    let s = c.args.self.now in
    record { part = (s.logs, s.mutators, s.epoch, own_part s _ (ap (λ t. t.shared.table_id) c.deref.ensures)); past = c.requires.past }

pub invariant_of-self : goal.invariant_of-self
invariant_of-self g c =
    let s = c.args.self.now in
    let same : c.deref.result.now.shared.table_id ≡ (arc_value s.table).shared.table_id = ap (λ t. t.shared.table_id) c.deref.ensures in
    let part = own_part s _ same in
    let row = c.zero_all.ensures s.logs s.mutators s.epoch part in
    let ok = subst (λ (h : TableId). PartOk h s.logs s.mutators s.epoch c.zero_all.new.seat) same (writes_ok _ s.logs s.mutators s.epoch c.args.log c.args.at (λ _. 0) 0 c.args.count s.seat c.zero_all.new.seat row part) in
    record { fits = ok.fits; stands = ok.stands }

pub returns-then-count-eq0 : goal.returns-then-count-eq0
returns-then-count-eq0 g c = let s = c.args.self.now in subst (λ n. WritesRow ⊥ seat_view seat_makes c.args.log c.args.at (λ _. 0) 0 n s s) (sym c.if-count-eq0.true) refl

pub returns : goal.returns
returns g c =
    let s = c.args.self.now in
    let same : c.deref.result.now.shared.table_id ≡ (arc_value s.table).shared.table_id = ap (λ t. t.shared.table_id) c.deref.ensures in
    let row = c.zero_all.ensures s.logs s.mutators s.epoch (own_part s _ same) in
    writes_lift s _ c.args.count c.if-count-eq0.false c.args.log c.args.at (λ _. 0) (subst (λ (h : TableId). WritesRow ⊥ part_view (part_makes h s.logs s.mutators s.epoch) c.args.log c.args.at (λ _. 0) 0 c.args.count s.seat c.zero_all.new.seat) same row)
