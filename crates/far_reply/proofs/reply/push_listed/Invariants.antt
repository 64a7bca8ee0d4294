use Rattle.std.proofs.Common.{◌≡◌, ◌≤◌, ◌+◌, ◌*◌, ◌++◌, length, take}
use Rattle.std.specs.List.{flat_map}
use Rattle.far_reply.specs.Reply.{log_listed}
use Rattle.far_reply.proofs.reply.push_listed.Given as goal

-- the logs so far are printed, each in 50 bytes at most
abbrev pub invariant-loop-log : goal.invariant-loop-log
invariant-loop-log l = record {
  grown : l.out ≡ l.initial.out ++ flat_map log_listed (take l.log-index l.logs);
  short : length l.out ≤ length l.initial.out + 50 * l.log-index;
}
