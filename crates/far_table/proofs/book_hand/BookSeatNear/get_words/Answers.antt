use Rattle.std.proofs.Common.{◌≡◌, sym, ap, subst}
use Rattle.std.specs.Arc.{arc_value}
use Rattle.atomic_table.specs.Seated.{TableId}
use Rattle.far_hand.specs.Ranges.{HasRead}
use Rattle.far_hand.proofs.Ranges.{has_none}
use Rattle.far_table.specs.BookRows.{PartOk, part_makes, part_view}
use Rattle.far_table.specs.BookSeats.{seat_makes, seat_view}
use Rattle.far_table.proofs.BookRows.{own_part, reads_lift, reads_ok}
use Rattle.far_table.proofs.book_hand.BookSeatNear.get_words.Goals as goal

pub get_all-requires : goal.get_all-requires
get_all-requires g c =
    let s = c.args.self.now in
    record { part = (s.logs, s.mutators, s.epoch, own_part s _ (ap (λ t. t.shared.table_id) c.deref.ensures)); within = c.requires.within; room = c.requires.room }

pub invariant_of-self : goal.invariant_of-self
invariant_of-self g c =
    let s = c.args.self.now in
    let same : c.deref.result.now.shared.table_id ≡ (arc_value s.table).shared.table_id = ap (λ t. t.shared.table_id) c.deref.ensures in
    let part = own_part s _ same in
    let h = c.get_all.ensures.words s.logs s.mutators s.epoch part in
    let ok = subst (λ (h : TableId). PartOk h s.logs s.mutators s.epoch c.get_all.new.seat) same (reads_ok _ s.logs s.mutators s.epoch c.args.log c.args.at h.0 0 c.args.count s.seat c.get_all.new.seat h.1 part) in
    record { fits = ok.fits; stands = ok.stands }

pub returns-then-count-eq0-clause-words : goal.returns-then-count-eq0-clause-words
returns-then-count-eq0-clause-words g c =
    let s = c.args.self.now in
    subst (λ n. HasRead ⊥ seat_view seat_makes c.args.log c.args.at s s n c.args.row.now) (sym c.if-count-eq0.true) (has_none ⊥ seat_view seat_makes c.args.log c.args.at s c.args.row.now)

pub returns-clause-words : goal.returns-clause-words
returns-clause-words g c =
    let s = c.args.self.now in
    let same : c.deref.result.now.shared.table_id ≡ (arc_value s.table).shared.table_id = ap (λ t. t.shared.table_id) c.deref.ensures in
    let h = c.get_all.ensures.words s.logs s.mutators s.epoch (own_part s _ same) in
    reads_lift s _ c.args.count c.if-count-eq0.false c.args.log c.args.at c.get_all.new.row
    (subst (λ (h : TableId). HasRead ⊥ part_view (part_makes h s.logs s.mutators s.epoch) c.args.log c.args.at s.seat c.get_all.new.seat c.args.count c.get_all.new.row) same h)
