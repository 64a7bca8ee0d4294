use Rattle.std.proofs.Common.{◌≡◌, ◌+◌, ◌*◌, ◌/◌, length, refl, subst, arith}
use Rattle.far_table.specs.SeatRows.{RowStored}
use Rattle.far_table.specs.Tells.{owner_of}
use Rattle.far_table.proofs.RowParts.{none_stored, soiled_part}
use Rattle.far_table.proofs.seat_rows.store_row.Goals as goal

pub store_some-requires : goal.store_some-requires
store_some-requires g c = record {
  row = soiled_part _ _ _ _ _ _ _ c.requires.row 0 (8 * (length c.args.bytes.now / 8)) _ _ (omega arith) refl (omega arith);
  room = omega arith;
}

pub returns-then-bytes-lt64-clause-stored : goal.returns-then-bytes-lt64-clause-stored
returns-then-bytes-lt64-clause-stored g c =
    let all : 0 + length c.args.bytes.now / 8 ≡ length c.args.bytes.now / 8 = omega arith in
    subst (λ k. RowStored c.args.p c.args.first k c.args.bytes.now (owner_of c.args.seat.now.me.0) (owner_of c.store_some.new.seat.me.0)) all (c.store_some.ensures.stored _ (none_stored _ _ _ _))

pub returns-then-bytes-lt64-clause-row : goal.returns-then-bytes-lt64-clause-row
returns-then-bytes-lt64-clause-row g c = c.store_some.ensures.rows _ _ _ c.requires.row
