use Rattle.std.proofs.Common.{◌≡◌, ◌+◌, ◌*◌, ◌/◌, length, refl, subst, arith}
use Rattle.far_table.specs.SeatRows.{RowLoaded}
use Rattle.far_table.specs.Tells.{owner_of}
use Rattle.far_table.proofs.RowParts.{none_loaded, row_part}
use Rattle.far_table.proofs.seat_rows.load_row.Goals as goal

pub load_some-requires : goal.load_some-requires
load_some-requires g c = record {
  row = row_part _ _ _ _ _ _ _ c.requires.row 0 (8 * (length c.args.out.now / 8)) _ _ (omega arith) refl (omega arith);
  room = omega arith;
  loaded = none_loaded _ _ _ _;
}

pub returns-then-out-lt64-clause-loaded : goal.returns-then-out-lt64-clause-loaded
returns-then-out-lt64-clause-loaded g c =
    let all : 0 + length c.args.out.now / 8 ≡ length c.args.out.now / 8 = omega arith in
    subst (λ k. RowLoaded c.args.p c.args.first k c.load_some.new.out (owner_of c.load_some.new.seat.me.0)) all c.load_some.ensures.loaded
