use Rattle.std.proofs.Common.{◌+◌, ◌≡◌, arith, refl, subst}
use Rattle.far_hand.specs.Ranges.{CopiesRow}
use Rattle.far_hand.proofs.Ranges.{copies_more}
use Rattle.far_table.specs.BookRows.{part_makes, part_view}
use Rattle.far_table.proofs.BookRows.{copies_lead, leads_then, part_on, past_on, reads_lead, within_on}
use Rattle.far_table.proofs.book_rows.copy_some.Goals as goal

pub loop-i-init : goal.loop-i-init
loop-i-init g c logs mutators epoch ok = refl

pub get_at-word-requires : goal.get_at-word-requires
get_at-word-requires g c =
    let here = c.args.shared.now.table_id in
    let s = c.args.seat.now in
    let t = c.loop-i.seat in
    let leads = copies_lead here s t c.requires.part c.args.from c.args.to c.args.first c.loop-i.i c.loop-i.invariant in
    let lt = c.loop-i-test.true in
    let source = c.requires.source in
    record {
      part = part_on here s t leads c.requires.part;
      within = within_on (part_view s) (part_view t) leads.rest c.args.from.log (c.args.from.at + 1 + c.args.first) c.args.count (c.args.from.at + 1 + (c.args.first + c.loop-i.i)) 1 c.requires.from (omega (arith, lt));
      address = omega (arith, source);
    }

pub put_at-requires : goal.put_at-requires
put_at-requires g c =
    let here = c.args.shared.now.table_id in
    let s = c.args.seat.now in
    let t = c.loop-i.seat in
    let u = c.get_at-word.new.seat in
    let before = copies_lead here s t c.requires.part c.args.from c.args.to c.args.first c.loop-i.i c.loop-i.invariant in
    let leads = leads_then here s t u before
    (reads_lead here t u (part_on here s t before c.requires.part) c.args.from.log (c.args.from.at + 1 + (c.args.first + c.loop-i.i)) c.get_at-word.result c.get_at-word.ensures) in
    let lt = c.loop-i-test.true in
    let target = c.requires.target in
    record {
      part = part_on here s u leads c.requires.part;
      past = past_on (part_view s) (part_view u) leads.rest c.args.to.log (c.args.to.at + 1 + c.args.first) c.args.count (c.args.to.at + 1 + (c.args.first + c.loop-i.i)) 1 c.requires.to (omega arith) (omega (arith, lt));
      address = omega (arith, target);
    }

pub loop-i-preserved : goal.loop-i-preserved
loop-i-preserved g c logs mutators epoch ok =
    let here = c.args.shared.now.table_id in
    let s = c.args.seat.now in
    let t = c.loop-i.seat in
    let before = (copies_lead here s t c.requires.part c.args.from c.args.to c.args.first c.loop-i.i c.loop-i.invariant).ok logs mutators epoch ok in
    let read = c.get_at-word.ensures logs mutators epoch before in
    copies_more ⊥ part_view (part_makes here logs mutators epoch) c.args.from c.args.to c.args.first c.loop-i.i (c.args.first + c.loop-i.i) s t c.put_at.new.seat refl (c.loop-i.invariant logs mutators epoch ok) record {
      middle = c.get_at-word.new.seat;
      word = c.get_at-word.result;
      read = read;
      wrote = c.put_at.ensures logs mutators epoch read.made.2;
    }

pub returns : goal.returns
returns g c logs mutators epoch ok =
    let all : c.loop-i.i ≡ c.args.count = omega (arith, c.loop-i-test.false, c.loop-i.auto) in
    subst (λ n. CopiesRow ⊥ part_view (part_makes c.args.shared.now.table_id logs mutators epoch) c.args.from c.args.to c.args.first n c.args.seat.now c.loop-i.seat) all (c.loop-i.invariant logs mutators epoch ok)
