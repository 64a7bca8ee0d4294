use Rattle.std.proofs.Common.{◌++◌, ◌≤◌, List, drop}
use Rattle.std.specs.List.{AllByRecursion}
use Rattle.far_text.specs.SplitText.{AreOwn}
use Rattle.far_text.specs.Threads.{OfBook}
use Rattle.far_reply.specs.Reply.{IsShort, Reply}
use Rattle.far_split.specs.BookTold.{BookTold}
use Rattle.far_split.specs.Here.{commands_of}
use Rattle.far_split.proofs.books.make_book_lines.Given as goal

-- where the lines that are left are told more, all lines are told so far and more
abbrev pub invariant-loop-at : goal.invariant-loop-at
invariant-loop-at g l = record {
  told : (more : List Reply) → BookTold g.K.HeapName.heap (commands_of (drop l.at l.lines)) more → BookTold g.K.HeapName.heap (commands_of l.lines) (l.told ++ more);
  own : AreOwn g.K.HeapName.heap.mutators OfBook (drop l.at l.lines);
  short : AllByRecursion IsShort l.told;
  turns : l.turn ≤ l.at;
}
