use Rattle.std.proofs.Common.{◌≡◌, ◌≤◌, ◌+◌, length}
use Rattle.far_text.specs.declared.text.TheConstants.{LONGEST_TEXT}
use Rattle.far_text.specs.Cursor.{lines_left}
use Rattle.far_text.specs.Grammar.{device_sought}
use Rattle.far_text.proofs.text.device_line.Given as goal

-- what is found in the lines that are left is found in all
abbrev pub invariant-loop-left : goal.invariant-loop-left
invariant-loop-left l = record {
  reads : device_sought (l.at + 1) (lines_left l.left) ≡ device_sought (l.fn.number + 1) (lines_left l.fn.lines);
  counted : l.at + length (lines_left l.left) ≤ LONGEST_TEXT + 1;
}

abbrev pub decreases-loop-left : goal.decreases-loop-left
decreases-loop-left l = length (lines_left l.left)
