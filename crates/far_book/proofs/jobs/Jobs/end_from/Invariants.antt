use Rattle.std.proofs.Common.{◌≡◌, ◌<◌, ◌≤◌, ℕ}
use Rattle.std.specs.Prelude.{option_map, length, ◌==◌}
use Rattle.far_book.specs.book.Jobs.{ended, noted_at}
use Rattle.far_book.proofs.jobs.Jobs.end_from.Given as goal

abbrev pub invariant-loop-job : goal.invariant-loop-job
invariant-loop-job l = record {
  sized : length l.self.noted ≡ length l.fn.self.noted;
  before : (j : ℕ) → j < l.job → noted_at l.self j ≡ option_map (ended (λ x. x.from.log == l.log)) (noted_at l.fn.self j);
  behind : (j : ℕ) → l.job ≤ j → noted_at l.self j ≡ noted_at l.fn.self j;
  waiting : l.self.waiting ≡ l.fn.self.waiting;
}
