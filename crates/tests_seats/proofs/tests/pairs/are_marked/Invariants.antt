use Rattle.std.proofs.Common.{◌≡◌, ◌*◌, ◌<◌, ◌≤◌, ℕ, true}
use Rattle.far_word.specs.declared.sizes.TheConstants.{CELLS}
use Rattle.far_word.specs.Pointer.{read_of}
use Rattle.tests_seats.specs.Marked.{evac_in}
use Rattle.tests_seats.proofs.tests.pairs.are_marked.Given as goal

abbrev pub invariant-loop-pointer : goal.invariant-loop-pointer
invariant-loop-pointer g l = record {
  kind : (g.N.Near.view l.book.near).kind ≡ (g.N.Near.view l.fn.book.near).kind;
  logs : (g.N.Near.view l.book.near).logs ≡ (g.N.Near.view l.fn.book.near).logs;
  end : l.pointers ≡ CELLS * (g.N.Near.view l.book.near).mutators;
  few : (g.N.Near.view l.book.near).mutators ≤ 8;
  marked : (p : ℕ) → p < l.pointer → evac_in (read_of ((g.N.Near.view l.book.near).cell p)) ≡ true;
}
