use Rattle.std.proofs.Common.{◌-◌, ap, arith, length, subst, sym}
use Rattle.std.specs.List.{AllByRecursion, range_with_len}
use Rattle.std.proofs.lemmas.List.FromFn.{length-map-range_with_len}
use Rattle.far_table.specs.BookSeats.{seat_view}
use Rattle.far_evac.specs.EvacOf.{moment}
use Rattle.far_replay.specs.Turn.{log_line}
use Rattle.far_split.specs.BookTold.{MakesLog}
use Rattle.far_split.proofs.Keeping.{length-lines_told}
use Rattle.far_split.proofs.Telling.{lines_whole}
use Rattle.far_split.proofs.inquiries.logs_told.Goals as goal

pub returns-clause-told : goal.returns-clause-told
returns-clause-told g c = record {
  stood = record {
    book = c.args.book.now;
    named = c.keeps_law.ensures.named;
    lawful = (c.keeps_law.ensures.law, c.keeps_law.ensures.moment);
    is = c.in_ok-rows.ensures;
  };
  whole = subst (AllByRecursion MakesLog) (sym c.in_ok-rows.ensures) (lines_whole (moment seat_view c.args.book.now) c.keeps_law.ensures.law (range_with_len c.args.first (c.args.end - c.args.first)));
}

pub returns-clause-short : goal.returns-clause-short
returns-clause-short g c =
    omega (
      arith,
      c.requires.logs.0,
      c.requires.logs.1,
      ap length c.in_ok-rows.ensures,
      length-map-range_with_len (log_line (moment seat_view c.args.book.now)) c.args.first (c.args.end - c.args.first),
      c.keeps_law.ensures.law.shape.few_logs,
    )

pub returns-clause-few : goal.returns-clause-few
returns-clause-few g c =
    omega (
      arith,
      c.requires.logs.0,
      c.requires.logs.1,
      ap length c.in_ok-rows.ensures,
      length-lines_told c.args.first c.in_ok-rows.rows.items,
      length-map-range_with_len (log_line (moment seat_view c.args.book.now)) c.args.first (c.args.end - c.args.first),
      c.keeps_law.ensures.law.shape.few_logs,
    )
