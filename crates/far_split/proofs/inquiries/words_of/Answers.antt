use Rattle.std.proofs.Common.{◌/◌, ap}
use Rattle.far_log.specs.declared.row.LogRow.{LogRow}
use Rattle.far_table.specs.BookSeats.{seat_view}
use Rattle.far_evac.specs.EvacOf.{moment}
use Rattle.far_split.proofs.Telling.{words_told}
use Rattle.far_split.proofs.inquiries.words_of.Goals as goal

pub returns : goal.returns
returns g c =
    words_told (moment seat_view c.args.book.now) c.keeps_law.ensures.law c.args.log _ c.log-kind.ensures.kind
    (ap (λ (row : LogRow). row.live / 8) c.log-kind.ensures.row) (ap (λ (row : LogRow). row.dead / 8) c.log-kind.ensures.row)
