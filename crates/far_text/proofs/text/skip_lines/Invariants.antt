use Rattle.std.proofs.Common.{◌≡◌, ◌≤◌, ◌<◌, ◌+◌, ℕ, length, slice_index}
use Rattle.std.specs.Option.{IfSome}
use Rattle.far_text.specs.declared.text.TheConstants.{LONGEST_TEXT}
use Rattle.far_text.specs.Cursor.{lines_left}
use Rattle.far_text.specs.Grammar.{device_sought, read_commands}
use Rattle.far_text.proofs.text.skip_lines.Given as goal

-- what is found and read in the lines that are left is found and read in all
abbrev pub invariant-loop-left : goal.invariant-loop-left
invariant-loop-left l = record {
  device : device_sought (l.fn.number + 1) (lines_left l.fn.lines) ≡ device_sought (l.at + 1) (lines_left l.left);
  commands : read_commands (l.fn.number + 1) (lines_left l.fn.lines) ≡ read_commands (l.at + 1) (lines_left l.left);
  counted : l.at + length (lines_left l.left) ≤ LONGEST_TEXT + 1;
  ascii : IfSome l.left (λ text. (k : ℕ) → slice_index text.now k < 128);
}

abbrev pub decreases-loop-left : goal.decreases-loop-left
decreases-loop-left l = length (lines_left l.left)
