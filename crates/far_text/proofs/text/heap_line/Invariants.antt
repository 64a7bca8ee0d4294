use Rattle.std.proofs.Common.{◌≡◌, ◌≤◌, ◌+◌, length}
use Rattle.far_text.specs.Cursor.{lines_left}
use Rattle.far_text.specs.Grammar.{lines_of}
use Rattle.far_text.specs.HeapSought.{heap_sought}
use Rattle.far_text.proofs.text.heap_line.Given as goal

-- what is found in the lines that are left is found in the text
abbrev pub invariant-loop-lines : goal.invariant-loop-lines
invariant-loop-lines l = record {
  reads : heap_sought (l.number + 1) (lines_left l.lines) ≡ heap_sought 1 (lines_of l.fn.text);
  counted : l.number + length (lines_left l.lines) ≤ length l.fn.text + 1;
}

abbrev pub decreases-loop-lines : goal.decreases-loop-lines
decreases-loop-lines l = length (lines_left l.lines)
