use Rattle.std.proofs.Common.{arith, ap, length, sym}
use Rattle.far_text.proofs.Cuts.{last_line, line_length}
use Rattle.far_text.proofs.line.line_len.Goals as goal

pub overflow_sub-result : goal.overflow_sub-result
overflow_sub-result c = let sum = line_length c.args.text.now c.in-Some.lines.now (rw c.in-Some.is at c.requires) in omega arith

pub overflow_sub-result-in-Some : goal.overflow_sub-result-in-Some
overflow_sub-result-in-Some c = let sum = line_length c.args.text.now c.in-Some.lines.now (rw c.in-Some.is at c.requires) in omega arith

pub returns-in-None : goal.returns-in-None
returns-in-None c = ap length (last_line c.args.text.now (sym (rw c.in-None.is at c.requires)))

pub returns-in-Some : goal.returns-in-Some
returns-in-Some c = let sum = line_length c.args.text.now c.in-Some.lines.now (rw c.in-Some.is at c.requires) in omega arith
