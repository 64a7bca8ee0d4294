use Rattle.std.proofs.Common.{◌≡◌, ◌+◌, ◌*◌}
use Rattle.std.specs.Prelude.{map, sum}
use Rattle.std.specs.List.{range_with_len}
use Rattle.far_core.specs.laws.Observed.{live_bytes}
use Rattle.far_private.specs.Objects.{state_in}
use Rattle.far_private.proofs.counting.count_bytes.Given as goal

abbrev pub invariant-loop-log : goal.invariant-loop-log
invariant-loop-log g l = record {
  live : l.live ≡ sum (map (live_bytes (state_in l.evac)) (range_with_len 0 l.log));
  whole : l.live + l.dead + l.unused ≡ 4096 * l.log;
}
