use Rattle.std.proofs.Common.{ap, sym, ◌∙◌}
use Rattle.far_word.specs.Job.{job_of}
use Rattle.far_events.specs.events.Get.{is_copied_at}
use Rattle.far_events.specs.state.Jobs.{job_said}
use Rattle.far_events.specs.state.Memory.{state_of}
use Rattle.far_events.proofs.events.Get.{copied_at}
use Rattle.far_events.proofs.memory.Memory.none_copied.Goals as goal

pub returns-then-is_copied_at : goal.returns-then-is_copied_at
returns-then-is_copied_at c = sym (copied_at (state_of c.args.self.now).copying c.args.log c.args.jobs c.loop-job.job c.loop-job-test.true
    (ap (λ w. is_copied_at c.args.log (job_said (job_of w))) (sym c.job.ensures) ∙ ap (is_copied_at c.args.log) (sym c.job_in.ensures) ∙ sym c.is_copied_at.ensures ∙ c.if-is_copied_at.true))
