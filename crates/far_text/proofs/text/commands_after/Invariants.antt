use Rattle.std.proofs.Common.{◌≡◌, ◌+◌, ◌≤◌, length}
use Rattle.far_text.specs.declared.text.TheConstants.{LONGEST_TEXT}
use Rattle.far_text.specs.Cursor.{lines_left}
use Rattle.far_text.specs.Grammar.{read_commands}
use Rattle.far_text.proofs.Reading.{onto_all}
use Rattle.far_text.proofs.text.commands_after.Given as goal

-- the commands so far, and those of the lines that are left, are those of all the lines
abbrev pub invariant-loop-lines : goal.invariant-loop-lines
invariant-loop-lines l = record {
  reads : onto_all l.commands (read_commands (l.number + 1) (lines_left l.lines)) ≡ read_commands (l.fn.number + 1) (lines_left l.fn.lines);
  counted : l.number + length (lines_left l.lines) ≤ LONGEST_TEXT + 1;
  few : length l.commands ≤ l.number;
}

abbrev pub decreases-loop-lines : goal.decreases-loop-lines
decreases-loop-lines l = length (lines_left l.lines)
