use Rattle.far_book.proofs.book.Book.collect.Given.{Over}
use Rattle.far_book.proofs.book.Book.collect.Goals.{Joined-collect_job, else-collect_job, then-collect_job}
use Rattle.far_book.proofs.book.Book.collect.Goals as goal
use Rattle.std.proofs.Common.{◌≡◌, ◌≤◌, ◌+◌, ◌∙◌, ℕ, Bool, Option, None, true, false, ap, arith, subst, sym}
use Rattle.far_word.specs.declared.job.Job.{Job}
use Rattle.far_events.specs.state.Jobs.{job_at}
use Rattle.far_events.specs.state.State.{State}
use Rattle.far_book.specs.book.BookOf.{BookOf}
use Rattle.far_book.specs.book.Collecting.{CollectsKnown, more}
use Rattle.far_hand.proofs.Closure.{then_came}
use Rattle.far_book.proofs.region.Going.{collected_more, collects_more}
use Rattle.far_book.proofs.region.JobNotes.{none_job}

few : (b : Bool) (n m : ℕ) → n ≤ m → more b n ≤ m + 1
few true n m le = omega arith
few false n m le = omega arith

unnamed : (s t : State) (j : ℕ) (o : Option Job) (names : Bool) → o ≡ None → CollectsKnown s t j o names → names ≡ false
unnamed s t j o names none h = (subst (λ (x : Option Job). CollectsKnown s t j x names) none h).1

counted : (g : Over) (c : Joined-collect_job g) → c.if-collect_job.count ≡ more c.collect_job.result c.loop-job.count
counted g c = elim c.if-collect_job.branch [
  | then-collect_job w ↦ w.count-is ∙ sym (ap (λ b. more b c.loop-job.count) w.if-collect_job.true)
  | else-collect_job w ↦ w.count-is ∙ sym (ap (λ b. more b c.loop-job.count) w.if-collect_job.false)
]

pub loop-job-preserved : goal.loop-job-preserved
loop-job-preserved g c =
    let h = c.loop-job.invariant in
    let s = g.N.Near.view c.args.self.now.near in
    let u = g.N.Near.view c.loop-job.self.near in
    let t = g.N.Near.view c.collect_job.new.self.near in
    let sum = counted g c in
    record {
      came = then_came h.came c.collect_job.ensures.came;
      collects = collects_more s u t c.loop-job.job c.loop-job.count c.if-collect_job.count c.collect_job.result h.collects c.collect_job.ensures.collects sum;
      exact = λ still. collected_more s u t c.loop-job.job c.loop-job.count c.if-collect_job.count c.collect_job.result (h.exact still) (c.collect_job.ensures.exact still) sum;
      most = subst (λ n. n ≤ c.loop-job.job + 1) (sym sum) (few c.collect_job.result c.loop-job.count c.loop-job.job h.most);
      unoffered = λ none.
          let empty = ap (λ (b : BookOf g.row.N.Denot g.row.D.Denot). job_at (g.N.Near.view b.near).copying.word c.loop-job.job) (h.unoffered none).0 ∙ none_job s none c.loop-job.job in
          let quiet = unnamed u t c.loop-job.job _ c.collect_job.result empty c.collect_job.ensures.collects in
          (c.collect_job.ensures.none empty ∙ (h.unoffered none).0, sum ∙ ap (λ b. more b c.loop-job.count) quiet ∙ (h.unoffered none).1);
      order = c.collect_job.ensures.order ∙ h.order;
      device = c.collect_job.ensures.device ∙ h.device;
    }
