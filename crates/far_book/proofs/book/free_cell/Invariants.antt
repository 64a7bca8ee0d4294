use Rattle.std.proofs.Common.{◌≡◌, ◌+◌, ◌≤◌, Some}
use Rattle.far_word.specs.Pointer.{IsPtr, read_of, word_of}
use Rattle.far_events.specs.state.State.{put}
use Rattle.far_hand.specs.Came.{Came}
use Rattle.far_hand.specs.Finds.{Finds}
use Rattle.far_book.proofs.region.Calls.{count}
use Rattle.far_book.proofs.book.free_cell.Given as goal

abbrev pub invariant-loop : goal.invariant-loop
invariant-loop g l = record {
  found : Finds ((g.N.Near.view l.fn.near).cell l.fn.pointer) l.word;
  kept : g.N.Near.view l.near ≡ record (g.N.Near.view l.fn.near) { cell = put (g.N.Near.view l.fn.near).cell l.fn.pointer l.word };
  came : Came g.N.Near.makes l.fn.near l.near;
  is : read_of l.word ≡ Some l.was;
  layout : IsPtr l.was;
  word : word_of l.was ≡ l.word;
  tries : l.counter + 1 ≤ count (read_of l.word);
}
