use Rattle.std.proofs.Common.{◌≡◌, ◌≤◌, ◌+◌, ◌*◌, ◌++◌, length, take}
use Rattle.std.specs.List.{flat_map}
use Rattle.far_reply.specs.Reply.{log_text}
use Rattle.far_reply.proofs.reply.push_logs.Given as goal

-- the lines so far are printed, each in 200 bytes at most
abbrev pub invariant-loop-line : goal.invariant-loop-line
invariant-loop-line l = record {
  grown : l.out ≡ l.initial.out ++ flat_map log_text (take l.line-index l.lines);
  short : length l.out ≤ length l.initial.out + 200 * l.line-index;
}
