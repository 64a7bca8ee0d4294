use Rattle.std.proofs.Common.{◌≡◌, ◌+◌, ◌≤◌, length}
use Rattle.far_text.specs.declared.text.TheConstants.{LONGEST_TEXT}
use Rattle.far_text.specs.Cursor.{lines_left}
use Rattle.far_text.specs.Split.{split_commands}
use Rattle.far_text.proofs.SplitReading.{onto_all_lines}
use Rattle.far_text.proofs.split.split_after.Given as goal

-- the commands so far, and those of the lines that are left, are those of all the lines
abbrev pub invariant-loop-lines : goal.invariant-loop-lines
invariant-loop-lines l = record {
  reads : onto_all_lines l.split (split_commands l.fn.mutators (l.number + 1) (lines_left l.lines)) ≡ split_commands l.fn.mutators (l.fn.number + 1) (lines_left l.fn.lines);
  counted : l.number + length (lines_left l.lines) ≤ LONGEST_TEXT + 1;
  few : length l.split ≤ l.number;
}

abbrev pub decreases-loop-lines : goal.decreases-loop-lines
decreases-loop-lines l = length (lines_left l.lines)
