use Rattle.far_book.proofs.ledger.Ledger.new.Goals as goal
use Rattle.std.proofs.Common.{ap, ◌∙◌, refl}
use Rattle.std.specs.Prelude.{not, ◌&&◌, ◌==◌}
use Rattle.std.proofs.lemmas.Bool.{lt-ltb}
use Rattle.far_book.proofs.region.Starts.{starts}

pub returns-clause-notes : goal.returns-clause-notes
returns-clause-notes c has = starts has c.args.shape c.requires _ record {
  current = refl;
  free = λ l few. c.remove.ensures l few ∙ ap (λ b. not (l == 0) && b) (c.below-free_logs.ensures l few);
  filled = c.in_ok-filled.ensures.items_if_clones_equal (λ y e. e);
  logs = c.in_ok-filled.ensures.len;
  order = c.in_ok-order.ensures;
  all = c.below.result;
  every = λ k few. c.below.ensures k few ∙ lt-ltb k 64 few;
  sets = c.in_ok-free_cells.ensures.items_if_clones_equal (λ y e. e);
  cells = c.in_ok-free_cells.ensures.len;
  jobs_sized = c.new-2.ensures.sized;
  jobs_noted = c.new-2.ensures.noted;
  jobs_waiting = c.new-2.ensures.waiting;
}
