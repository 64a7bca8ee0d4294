use Rattle.std.proofs.Common.{◌+◌, ◌-◌, ◌*◌, ◌/◌, ◌<◌, ◌≤◌, refl, ap, ◌∙◌, arith}
use Rattle.std.proofs.Math.Nat.{mod-eq-sub-mod, mod-eq_of_lt}
use Rattle.far_table.proofs.RowParts.{low, row_ends, row_later, row_part, row_start}
use Rattle.far_table.proofs.seat_rows.load_rung.Goals as goal

pub overflow_add-start : goal.overflow_add-start
overflow_add-start g c = low (c.args.begin + c.args.done) (omega (arith, row_ends _ _ _ _ _ _ _ c.requires.row, c.requires.room))

pub load_some-requires : goal.load_some-requires
load_some-requires g c =
    let many = c.if-left-size.false in
    let room = c.requires.room in record {
      row = row_part _ _ _ _ _ _ _ c.requires.row c.args.done (8 * (c.args.size / 2)) _ _ (row_start _ _ _ _ _ _ _ c.requires.row c.args.done (omega (arith, c.requires.size.0))) refl (omega arith);
      room = omega arith;
      loaded = c.requires.loaded;
    }

pub load_some-requires-2 : goal.load_some-requires-2
load_some-requires-2 g c =
    let many = c.if-left-size.false in
    let room = c.requires.room in
    let r = row_later _ _ _ _ _ _ _ c.requires.row _ _ _ c.load_some.ensures.table c.load_some.ensures.view refl in record {
      row = row_part _ _ _ _ _ _ _ r (c.args.done + c.args.size / 2) (8 * (c.args.size / 2)) _ _ (omega (arith, row_start _ _ _ _ _ _ _ r c.args.done (omega (arith, c.requires.size.0)))) refl (omega arith);
      room = omega (arith, c.load_some.auto.out);
      loaded = c.load_some.ensures.loaded;
    }

pub returns-then-left-size-clause-sum : goal.returns-then-left-size-clause-sum
returns-then-left-size-clause-sum g c = ap (λ k. c.args.done + k) (mod-eq_of_lt c.if-left-size.true)

pub returns-clause-sum : goal.returns-clause-sum
returns-clause-sum g c =
    let many : c.args.size ≤ c.args.left = omega (arith, c.if-left-size.false) in
    let few : c.args.left - c.args.size < c.args.size = omega (arith, c.requires.size.3) in
    omega (arith, c.requires.size.2, mod-eq-sub-mod many ∙ mod-eq_of_lt few)

pub returns-clause-loaded : goal.returns-clause-loaded
returns-clause-loaded g c = c.load_some-2.ensures.loaded
