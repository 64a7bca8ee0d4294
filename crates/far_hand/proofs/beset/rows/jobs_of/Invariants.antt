use Rattle.std.proofs.Common.{◌≡◌, ℕ, ◌<◌, length}
use Rattle.far_word.specs.declared.sizes.TheConstants.{JOBS}
use Rattle.far_core.specs.state.CoreState.{core_state}
use Rattle.far_hand.specs.Masked.{word_at}
use Rattle.far_hand.proofs.beset.rows.jobs_of.Given as goal

abbrev pub invariant-loop-job : goal.invariant-loop-job
invariant-loop-job l = record {
  len : length l.jobs ≡ JOBS;
  words : (j : ℕ) → j < l.job → word_at l.jobs j ≡ (core_state l.core).copying.word j;
}
