use Rattle.std.proofs.Common.{◌≡◌, ◌+◌, ◌-◌, ◌*◌, ◌/◌, ◌%◌, length, refl, subst, arith}
use Rattle.far_table.specs.SeatRows.{RowStored}
use Rattle.far_table.specs.Tells.{owner_of}
use Rattle.far_table.proofs.RowParts.{none_stored, row_fits, soiled_part}
use Rattle.far_table.proofs.seat_rows.store_long.Goals as goal

pub loop-done-init : goal.loop-done-init
loop-done-init g c = record { row = c.requires.row; room = omega arith; whole = omega arith; stored = none_stored _ _ _ _ }

pub store_rung-done-requires : goal.store_rung-done-requires
store_rung-done-requires g c =
    let i = c.loop-done.invariant in
    let more = c.loop-done-test.true in
    record { row = i.row; size = (omega arith, omega arith, omega arith, omega arith); room = omega (arith, i.whole, i.room) }

pub loop-done-preserved : goal.loop-done-preserved
loop-done-preserved g c =
    let i = c.loop-done.invariant in
    let more = c.loop-done-test.true in
    let d = c.store_rung-done.ensures in
    record { row = d.row; room = omega (arith, i.whole, d.sum); whole = omega (arith, i.whole, d.sum); stored = d.stored _ i.stored }

pub store_rung-low-requires : goal.store_rung-low-requires
store_rung-low-requires g c = record { row = c.loop-done.invariant.row; size = (omega arith, omega arith, omega arith, omega arith); room = omega arith }

pub store_rung-mid-requires : goal.store_rung-mid-requires
store_rung-mid-requires g c = let l = c.store_rung-low.ensures in record { row = l.row; size = (omega arith, omega arith, omega arith, omega arith); room = omega (arith, l.sum) }

pub store_rung-high-requires : goal.store_rung-high-requires
store_rung-high-requires g c =
    let m = c.store_rung-mid.ensures in
    record { row = m.row; size = (omega arith, omega arith, omega arith, omega arith); room = omega (arith, c.store_rung-low.ensures.sum, m.sum) }

pub overflow_add-start : goal.overflow_add-start
overflow_add-start g c = row_fits _ _ _ _ _ _ _ c.requires.row.row c.store_rung-high.result (omega (arith, c.store_rung-low.ensures.sum, c.store_rung-mid.ensures.sum, c.store_rung-high.ensures.sum))

pub store_some-requires : goal.store_some-requires
store_some-requires g c =
    let l = c.store_rung-low.ensures.sum in
    let m = c.store_rung-mid.ensures.sum in
    let h = c.store_rung-high.ensures.sum in
    record { row = soiled_part _ _ _ _ _ _ _ c.store_rung-high.ensures.row c.store_rung-high.result (8 * (length c.args.bytes.now / 8 % 4)) _ _ refl refl (omega arith); room = omega arith }

pub returns-clause-stored : goal.returns-clause-stored
returns-clause-stored g c =
    let i = c.loop-done.invariant in
    let l = c.store_rung-low.ensures in
    let m = c.store_rung-mid.ensures in
    let h = c.store_rung-high.ensures in
    let most : c.loop-done.done ≡ length c.args.bytes.now / 8 - length c.args.bytes.now / 8 % 32 = omega (arith, c.loop-done-test.false, i.room, i.whole) in
    let all : c.store_rung-high.result + length c.args.bytes.now / 8 % 4 ≡ length c.args.bytes.now / 8 = omega (arith, l.sum, m.sum, h.sum) in
    let blocks = subst (λ k. RowStored c.args.p c.args.first k c.args.bytes.now (owner_of c.args.seat.now.me.0) (owner_of c.loop-done.seat.me.0)) most i.stored in
    subst (λ k. RowStored c.args.p c.args.first k c.args.bytes.now (owner_of c.args.seat.now.me.0) (owner_of c.store_some.new.seat.me.0)) all (c.store_some.ensures.stored _ (h.stored _ (m.stored _ (l.stored _ blocks))))

pub returns-clause-row : goal.returns-clause-row
returns-clause-row g c = c.store_some.ensures.rows _ _ _ c.store_rung-high.ensures.row
