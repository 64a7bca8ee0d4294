use Rattle.std.proofs.Common.{◌≡◌, ◌≤◌, ◌*◌, take}
use Rattle.far_split.specs.BookTold.{live_in}
use Rattle.far_split.proofs.inquiries.count_bytes.Given as goal

abbrev pub invariant-loop-log : goal.invariant-loop-log
invariant-loop-log l = record {
  live : l.live ≡ live_in (take l.log-index l.logs);
  most : l.live ≤ 65536 * l.log-index;
}
