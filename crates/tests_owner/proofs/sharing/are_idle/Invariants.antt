use Rattle.std.proofs.Common.{◌≡◌, ◌<◌, ℕ, false}
use Rattle.far_word.specs.Job.{job_of}
use Rattle.far_core.specs.state.CoreState.{core_state}
use Rattle.tests_owner.specs.Used.{is_taken}
use Rattle.tests_owner.proofs.sharing.are_idle.Given as goal

abbrev pub invariant-loop-job : goal.invariant-loop-job
invariant-loop-job l = (j : ℕ) → j < l.job → is_taken (job_of ((core_state l.core).copying.word j)) ≡ false
