use Rattle.std.proofs.Common.{◌≡◌, ◌<◌, ℕ, false}
use Rattle.far_book.specs.book.Jobs.{copies_at, noted_at}
use Rattle.far_book.proofs.jobs.Jobs.copies_at.Given as goal

abbrev pub invariant-loop-job : goal.invariant-loop-job
invariant-loop-job l = (j : ℕ) → j < l.job → copies_at l.log (noted_at l.self j) ≡ false
