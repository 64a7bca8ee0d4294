use Rattle.std.proofs.Common.{◌≡◌, ℕ, ◌<◌}
use Rattle.far_word.specs.Pointer.{read_of}
use Rattle.far_events.specs.events.Advance.{is_among}
use Rattle.far_events.specs.state.Law.{HasEvac}
use Rattle.tests_far_book.proofs.tests.jobs.all_have_evac.Given as goal

-- the cells that were seen say so, and nothing but cells is another
abbrev pub invariant-loop-pointer : goal.invariant-loop-pointer
invariant-loop-pointer g l = record {
  kept : g.N.Near.view l.book.near ≡ record (g.N.Near.view l.fn.book.near) { cell = (g.N.Near.view l.book.near).cell };
  seen : (p : ℕ) → p < l.pointer → HasEvac (is_among 1) (read_of ((g.N.Near.view l.book.near).cell p));
}
