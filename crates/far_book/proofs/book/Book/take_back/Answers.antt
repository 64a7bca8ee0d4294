use Rattle.far_book.proofs.book.Book.take_back.Goals as goal
use Rattle.std.proofs.Common.{◌≡◌, ◌∙◌, ap, arith, refl, subst}
use Rattle.far_word.specs.declared.sizes.TheConstants.{JOBS}
use Rattle.far_events.specs.state.Jobs.{job_at}
use Rattle.far_book.specs.book.BookOf.{BookOf}
use Rattle.far_book.specs.book.Collecting.{TakesBack, all_back}
use Rattle.far_hand.proofs.Closure.{no_call, then_came}
use Rattle.far_book.proofs.region.Going.{back_more, takes_more}
use Rattle.far_book.proofs.region.JobNotes.{none_job}

pub loop-job-preserved : goal.loop-job-preserved
loop-job-preserved g c =
    let h = c.loop-job.invariant in
    let s = g.N.Near.view c.args.self.now.near in
    let u = g.N.Near.view c.loop-job.self.near in
    let t = g.N.Near.view c.take_job_back.new.self.near in
    record {
      came = then_came h.came c.take_job_back.ensures.came;
      takes = takes_more s u t c.loop-job.job h.takes c.take_job_back.ensures.takes;
      exact = λ still. back_more s u t c.loop-job.job (h.exact still) (c.take_job_back.ensures.exact still);
      unoffered = λ none. c.take_job_back.ensures.none
          (ap (λ (b : BookOf g.row.N.Denot g.row.D.Denot). job_at (g.N.Near.view b.near).copying.word c.loop-job.job) (h.unoffered none) ∙ none_job s none c.loop-job.job) ∙ h.unoffered none;
      order = c.take_job_back.ensures.order ∙ h.order;
      device = c.take_job_back.ensures.device ∙ h.device;
    }

pub loop-job-init : goal.loop-job-init
loop-job-init g c = record {
  came = no_call refl;
  takes = refl;
  exact = λ _. refl;
  unoffered = λ _. refl;
  order = refl;
  device = refl;
}

pub returns : goal.returns
returns g c =
    let h = c.loop-job.invariant in
    let s = g.N.Near.view c.args.self.now.near in
    let t = g.N.Near.view c.loop-job.self.near in
    let last : c.loop-job.job ≡ JOBS = omega arith in
    record {
      came = h.came;
      takes = subst (λ n. TakesBack s n t) last h.takes;
      exact = λ still. subst (λ n. t ≡ all_back s n) last (h.exact still);
      unoffered = h.unoffered;
      order = h.order;
      device = h.device;
    }
