use Rattle.std.proofs.Common.{take, Ok}
use Rattle.far_split.specs.Printed.{parts_text}
use Rattle.far_split.specs.Prints.{Prints}
use Rattle.far_split.proofs.split_out.print_mutators.Given as goal

-- the mutators so far are printed
abbrev pub invariant-loop-number : goal.invariant-loop-number
invariant-loop-number g l = Prints (g.W.Write.contents l.fn.writer) l.fn.buffer (g.W.Write.contents l.writer) l.buffer (Ok tt) (parts_text 0 (take l.number l.mutators))
