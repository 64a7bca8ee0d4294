use Rattle.std.proofs.Common.{take, Ok}
use Rattle.std.specs.List.{flat_map}
use Rattle.far_reply.specs.Reply.{log_text}
use Rattle.far_split.specs.Prints.{Prints}
use Rattle.far_split.proofs.split_out.print_logs.Given as goal

-- the lines so far are printed
abbrev pub invariant-loop-at : goal.invariant-loop-at
invariant-loop-at g l = Prints (g.W.Write.contents l.fn.writer) l.fn.buffer (g.W.Write.contents l.writer) l.buffer (Ok tt) (flat_map log_text (take l.at l.lines))
