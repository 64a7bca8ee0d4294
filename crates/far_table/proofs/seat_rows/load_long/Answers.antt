use Rattle.std.proofs.Common.{◌≡◌, ◌+◌, ◌-◌, ◌*◌, ◌/◌, ◌%◌, length, refl, ◌∙◌, subst, arith}
use Rattle.far_table.specs.SeatRows.{RowLoaded}
use Rattle.far_table.specs.Tells.{owner_of}
use Rattle.far_table.proofs.RowParts.{none_loaded, row_fits, row_later, row_part}
use Rattle.far_table.proofs.seat_rows.load_long.Goals as goal

pub loop-done-init : goal.loop-done-init
loop-done-init g c = record { table = refl; view = refl; long = refl; room = omega arith; whole = omega arith; loaded = none_loaded _ _ _ _ }

pub load_rung-done-requires : goal.load_rung-done-requires
load_rung-done-requires g c =
    let i = c.loop-done.invariant in
    let more = c.loop-done-test.true in record {
      row = row_later _ _ _ _ _ _ _ c.requires.row _ _ _ i.table i.view i.long;
      size = (omega arith, omega arith, omega arith, omega arith);
      room = omega (arith, i.long, i.whole, i.room);
      loaded = i.loaded;
    }

pub loop-done-preserved : goal.loop-done-preserved
loop-done-preserved g c =
    let i = c.loop-done.invariant in
    let more = c.loop-done-test.true in
    let d = c.load_rung-done in record {
      table = d.ensures.table ∙ i.table;
      view = d.ensures.view ∙ i.view;
      long = d.auto.out ∙ i.long;
      room = omega (arith, i.whole, d.ensures.sum);
      whole = omega (arith, i.whole, d.ensures.sum);
      loaded = d.ensures.loaded;
    }

pub load_rung-low-requires : goal.load_rung-low-requires
load_rung-low-requires g c =
    let i = c.loop-done.invariant in
    let all : c.loop-done.done ≡ length c.args.out.now / 8 - length c.args.out.now / 8 % 32 = omega (arith, c.loop-done-test.false, i.room, i.whole) in record {
      row = row_later _ _ _ _ _ _ _ c.requires.row _ _ _ i.table i.view i.long;
      size = (omega arith, omega arith, omega arith, omega arith);
      room = omega (arith, i.long);
      loaded = subst (λ k. RowLoaded c.args.p c.args.first k c.loop-done.out (owner_of c.loop-done.seat.me.0)) all i.loaded;
    }

pub load_rung-mid-requires : goal.load_rung-mid-requires
load_rung-mid-requires g c =
    let i = c.loop-done.invariant in
    let l = c.load_rung-low in record {
      row = row_later _ _ _ _ _ _ _ c.requires.row _ _ _ (l.ensures.table ∙ i.table) (l.ensures.view ∙ i.view) (l.auto.out ∙ i.long);
      size = (omega arith, omega arith, omega arith, omega arith);
      room = omega (arith, l.ensures.sum, l.auto.out, i.long);
      loaded = l.ensures.loaded;
    }

pub load_rung-high-requires : goal.load_rung-high-requires
load_rung-high-requires g c =
    let i = c.loop-done.invariant in
    let l = c.load_rung-low in
    let m = c.load_rung-mid in record {
      row = row_later _ _ _ _ _ _ _ c.requires.row _ _ _ (m.ensures.table ∙ (l.ensures.table ∙ i.table)) (m.ensures.view ∙ (l.ensures.view ∙ i.view)) (m.auto.out ∙ (l.auto.out ∙ i.long));
      size = (omega arith, omega arith, omega arith, omega arith);
      room = omega (arith, l.ensures.sum, m.ensures.sum, l.auto.out, m.auto.out, i.long);
      loaded = m.ensures.loaded;
    }

pub overflow_add-start : goal.overflow_add-start
overflow_add-start g c = row_fits _ _ _ _ _ _ _ c.requires.row c.load_rung-high.result (omega (arith, c.load_rung-low.ensures.sum, c.load_rung-mid.ensures.sum, c.load_rung-high.ensures.sum))

pub load_some-requires : goal.load_some-requires
load_some-requires g c =
    let i = c.loop-done.invariant in
    let l = c.load_rung-low in
    let m = c.load_rung-mid in
    let h = c.load_rung-high in
    let r = row_later _ _ _ _ _ _ _ c.requires.row _ _ (length c.args.out.now) (h.ensures.table ∙ (m.ensures.table ∙ (l.ensures.table ∙ i.table))) (h.ensures.view ∙ (m.ensures.view ∙ (l.ensures.view ∙ i.view))) refl in record {
      row = row_part _ _ _ _ _ _ _ r h.result (8 * (length c.args.out.now / 8 % 4)) _ _ refl refl (omega (arith, l.ensures.sum, m.ensures.sum, h.ensures.sum));
      room = omega (arith, l.ensures.sum, m.ensures.sum, h.ensures.sum, l.auto.out, m.auto.out, h.auto.out, i.long);
      loaded = h.ensures.loaded;
    }

pub returns-clause-loaded : goal.returns-clause-loaded
returns-clause-loaded g c =
    let all : c.load_rung-high.result + length c.args.out.now / 8 % 4 ≡ length c.args.out.now / 8 = omega (arith, c.load_rung-low.ensures.sum, c.load_rung-mid.ensures.sum, c.load_rung-high.ensures.sum) in
    subst (λ k. RowLoaded c.args.p c.args.first k c.load_some.new.out (owner_of c.load_some.new.seat.me.0)) all c.load_some.ensures.loaded
