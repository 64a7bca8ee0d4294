use Rattle.std.proofs.Common.{◌≡◌, ◌≤◌, ◌*◌}
use Rattle.std.specs.Prelude.{sum, map}
use Rattle.std.specs.List.{range_with_len}
use Rattle.far_core.specs.laws.Observed.{live_bytes}
use Rattle.far_replay.specs.Moment.{state_in}
use Rattle.far_replay.proofs.inquiries.count_bytes.Given as goal

abbrev pub invariant-loop-log : goal.invariant-loop-log
invariant-loop-log l = record {
  live : l.live ≡ sum (map (live_bytes (state_in l.evac)) (range_with_len 0 l.log));
  most : l.live ≤ 65536 * l.log;
}
