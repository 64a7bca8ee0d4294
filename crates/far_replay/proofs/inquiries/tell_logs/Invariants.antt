use Rattle.std.proofs.Common.{◌≡◌, take}
use Rattle.std.specs.Prelude.{map}
use Rattle.std.specs.List.{range_with_len}
use Rattle.far_replay.specs.Moment.{moment_in}
use Rattle.far_replay.specs.Turn.{log_line}
use Rattle.far_replay.proofs.inquiries.tell_logs.Given as goal

abbrev pub invariant-loop-log : goal.invariant-loop-log
invariant-loop-log l = take l.log l.lines ≡ map (log_line (moment_in l.evac)) (range_with_len 0 l.log)
