use Rattle.std.proofs.Common.{◌≡◌, ◌<◌, ℕ, true}
use Rattle.far_book.specs.book.NumberSet.{has}
use Rattle.far_book.proofs.jobs.Jobs.lowest_empty.Given as goal

abbrev pub invariant-loop-job : goal.invariant-loop-job
invariant-loop-job l = (j : ℕ) → j < l.job → has l.self.waiting j ≡ true
