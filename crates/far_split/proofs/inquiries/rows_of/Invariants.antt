use Rattle.std.proofs.Common.{◌≡◌, ◌+◌, ◌-◌, ◌≤◌, map, vec_len, vec_capacity}
use Rattle.std.specs.List.{range_with_len}
use Rattle.far_table.specs.BookSeats.{seat_view}
use Rattle.far_evac.specs.EvacOf.{moment}
use Rattle.far_replay.specs.Turn.{log_line}
use Rattle.far_split.specs.Kept.{lines_told}
use Rattle.far_split.proofs.inquiries.rows_of.Given as goal

abbrev pub invariant-loop-log : goal.invariant-loop-log
invariant-loop-log g l = record {
  lines : lines_told l.fn.first l.rows.items ≡ map (log_line (moment seat_view l.book)) (range_with_len l.fn.first (l.log - l.fn.first));
  many : vec_len l.rows + l.fn.first ≡ l.log;
  buffer : l.end ≤ vec_capacity l.rows + l.fn.first;
}
