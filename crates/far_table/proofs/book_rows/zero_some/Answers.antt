use Rattle.std.proofs.Common.{◌+◌, ◌≡◌, arith, refl, subst}
use Rattle.far_hand.specs.Ranges.{WritesRow}
use Rattle.far_hand.proofs.Ranges.{writes_more}
use Rattle.far_table.specs.BookRows.{part_makes, part_view}
use Rattle.far_table.proofs.BookRows.{part_on, past_on, writes_lead}
use Rattle.far_table.proofs.book_rows.zero_some.Goals as goal

pub loop-i-init : goal.loop-i-init
loop-i-init g c logs mutators epoch ok = refl

pub put_at-requires : goal.put_at-requires
put_at-requires g c =
    let here = c.args.shared.now.table_id in
    let s = c.args.seat.now in
    let t = c.loop-i.seat in
    let leads = writes_lead here s t c.requires.part c.args.log c.args.at (λ _. 0) c.args.first c.loop-i.i c.loop-i.invariant in
    let lt = c.loop-i-test.true in
    let start = c.requires.start in
    record {
      part = part_on here s t leads c.requires.part;
      past = past_on (part_view s) (part_view t) leads.rest c.args.log (c.args.at + c.args.first) c.args.count (c.args.at + (c.args.first + c.loop-i.i)) 1 c.requires.past (omega arith) (omega (arith, lt));
      address = omega (arith, start);
    }

pub loop-i-preserved : goal.loop-i-preserved
loop-i-preserved g c logs mutators epoch ok =
    let here = c.args.shared.now.table_id in
    let s = c.args.seat.now in
    let t = c.loop-i.seat in
    let before = (writes_lead here s t c.requires.part c.args.log c.args.at (λ _. 0) c.args.first c.loop-i.i c.loop-i.invariant).ok logs mutators epoch ok in
    writes_more ⊥ part_view (part_makes here logs mutators epoch) c.args.log c.args.at (λ _. 0) c.args.first c.loop-i.i (c.args.first + c.loop-i.i) 0 s t c.put_at.new.seat refl refl
    (c.loop-i.invariant logs mutators epoch ok) (c.put_at.ensures logs mutators epoch before)

pub returns : goal.returns
returns g c logs mutators epoch ok =
    let all : c.loop-i.i ≡ c.args.count = omega (arith, c.loop-i-test.false, c.loop-i.auto) in
    subst (λ n. WritesRow ⊥ part_view (part_makes c.args.shared.now.table_id logs mutators epoch) c.args.log c.args.at (λ _. 0) c.args.first n c.args.seat.now c.loop-i.seat) all (c.loop-i.invariant logs mutators epoch ok)
