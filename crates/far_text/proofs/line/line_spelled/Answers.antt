use Rattle.std.proofs.Common.{arith, sym}
use Rattle.far_text.specs.Spelled.{entry_spelled}
use Rattle.far_text.specs.Cursor.{first_line}
use Rattle.far_text.proofs.LineLemmas.{spelled_line, bad_entry, long_line}
use Rattle.far_text.proofs.line.line_spelled.Goals as goal

pub returns-in_default-clause-bad : goal.returns-in_default-clause-bad
returns-in_default-clause-bad c =
    bad_entry c.args.text.now c.requires.some c.requires.content c.requires.other (sym (rw c.in_default.is at c.requires.value))

pub returns-then-line_len-gt-LONGEST_LINE-clause-bad : goal.returns-then-line_len-gt-LONGEST_LINE-clause-bad
returns-then-line_len-gt-LONGEST_LINE-clause-bad c =
    long_line (first_line c.args.text.now) (omega arith)

pub returns-clause-line : goal.returns-clause-line
returns-clause-line c =
    spelled_line c.args.text.now (entry_spelled c.in-Some.entry) c.requires.some c.requires.content c.requires.other (rw c.in-Some.is at c.requires.value) (omega arith)
