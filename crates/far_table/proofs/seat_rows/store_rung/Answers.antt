use Rattle.std.proofs.Common.{◌+◌, ◌-◌, ◌*◌, ◌/◌, ◌<◌, ◌≤◌, refl, ap, ◌∙◌, arith}
use Rattle.std.proofs.Math.Nat.{mod-eq-sub-mod, mod-eq_of_lt}
use Rattle.far_table.proofs.RowParts.{low, row_ends, row_start, soiled_part}
use Rattle.far_table.proofs.seat_rows.store_rung.Goals as goal

pub overflow_add-start : goal.overflow_add-start
overflow_add-start g c = low (c.args.begin + c.args.done) (omega (arith, row_ends _ _ _ _ _ _ _ c.requires.row.row, c.requires.room))

pub store_some-requires : goal.store_some-requires
store_some-requires g c =
    let many = c.if-left-size.false in
    let room = c.requires.room in
    let s = c.requires.row in record {
      row = soiled_part _ _ _ _ _ _ _ s c.args.done (8 * (c.args.size / 2)) _ _ (row_start _ _ _ _ _ _ _ s.row c.args.done (omega (arith, c.requires.size.0))) refl (omega arith);
      room = omega arith;
    }

pub store_some-requires-2 : goal.store_some-requires-2
store_some-requires-2 g c =
    let many = c.if-left-size.false in
    let room = c.requires.room in
    let s = c.store_some.ensures.rows _ _ _ c.requires.row in record {
      row = soiled_part _ _ _ _ _ _ _ s (c.args.done + c.args.size / 2) (8 * (c.args.size / 2)) _ _ (omega (arith, row_start _ _ _ _ _ _ _ s.row c.args.done (omega (arith, c.requires.size.0)))) refl (omega arith);
      room = omega arith;
    }

pub returns-then-left-size-clause-sum : goal.returns-then-left-size-clause-sum
returns-then-left-size-clause-sum g c = ap (λ k. c.args.done + k) (mod-eq_of_lt c.if-left-size.true)

pub returns-clause-sum : goal.returns-clause-sum
returns-clause-sum g c =
    let many : c.args.size ≤ c.args.left = omega (arith, c.if-left-size.false) in
    let few : c.args.left - c.args.size < c.args.size = omega (arith, c.requires.size.3) in
    omega (arith, c.requires.size.2, mod-eq-sub-mod many ∙ mod-eq_of_lt few)

pub returns-clause-stored : goal.returns-clause-stored
returns-clause-stored g c o s = c.store_some-2.ensures.stored o (c.store_some.ensures.stored o s)

pub returns-clause-row : goal.returns-clause-row
returns-clause-row g c = c.store_some-2.ensures.rows _ _ _ (c.store_some.ensures.rows _ _ _ c.requires.row)
