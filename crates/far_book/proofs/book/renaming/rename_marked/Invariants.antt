use Rattle.std.proofs.Common.{◌≡◌, ◌≤◌, ◌<◌, ◌^◌, true, false, IsSome}
use Rattle.far_word.specs.Pointer.{read_of}
use Rattle.far_events.specs.state.Law.{is_dirty}
use Rattle.far_hand.specs.Came.{Came, only}
use Rattle.far_hand.specs.Finds.{Finds}
use Rattle.far_book.specs.book.Only.{Names}
use Rattle.far_book.specs.book.Renaming.{seen, stops}
use Rattle.far_book.proofs.region.Calls.{count}
use Rattle.far_book.proofs.book.renaming.rename_marked.Given as goal

abbrev pub invariant-loop : goal.invariant-loop
invariant-loop g l = record {
  fits : l.word < 2 ^ 64;
  found : Finds ((g.N.Near.view l.fn.near).cell l.fn.pointer) l.word;
  kept : g.N.Near.view l.near ≡ seen (g.N.Near.view l.fn.near) l.fn.pointer l.word;
  names : Came (only (Names l.fn.pointer l.fn.new) g.N.Near.makes) l.fn.near l.near;
  readable : IsSome (read_of l.word);
  alive : stops (read_of l.fn.found) (read_of l.word) ≡ false;
  dirty : is_dirty (read_of l.fn.found) ≡ true → is_dirty (read_of l.word) ≡ true;
  same : g.N.Near.still → l.word ≡ l.fn.found;
  tries : l.counter ≤ count (read_of l.word);
}
