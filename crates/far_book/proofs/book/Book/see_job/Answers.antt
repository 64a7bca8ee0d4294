use Rattle.far_book.proofs.book.Book.see_job.Goals as goal
use Rattle.std.proofs.Common.{◌∙◌, ap, arith, subst, sym}
use Rattle.far_events.specs.state.State.{State}
use Rattle.far_hand.specs.FindsJob.{FindsJob, job_found}
use Rattle.far_book.specs.book.BookOf.{BookOf}
use Rattle.far_book.specs.book.FarSide.{InOrder}
use Rattle.far_book.proofs.region.JobSteps.{job_keeps}
use Rattle.far_hand.proofs.Closure.{first_call}
use Rattle.far_book.proofs.region.Handed.{since_book}

pub invariant_of-self : goal.invariant_of-self
invariant_of-self g c = (
  subst (λ (s : State). InOrder s c.self.inside.ledger (g.D.Device.contents c.self.inside.device) (g.D.Device.honest c.self.inside.device)) (sym c.see_job.ensures.kept)
      (job_keeps (g.N.Near.view c.self.inside.near) c.self.inside.ledger (g.D.Device.contents c.self.inside.device) (g.D.Device.honest c.self.inside.device) c.self.invariant.0
      c.args.job c.requires.range c.see_job.result (omega arith) c.see_job.ensures.found),
  c.self.invariant.1,
)

pub returns-clause-came : goal.returns-clause-came
returns-clause-came g c = since_book c.self.view_is (first_call _ _ c.see_job.ensures.made)

pub returns-clause-found : goal.returns-clause-found
returns-clause-found g c = subst (λ (b : BookOf g.row.N.Denot g.row.D.Denot). FindsJob ((g.N.Near.view b.near).copying.word c.args.job) c.see_job.result) c.self.view_is c.see_job.ensures.found

pub returns-clause-kept : goal.returns-clause-kept
returns-clause-kept g c = c.see_job.ensures.kept ∙ ap (λ (b : BookOf g.row.N.Denot g.row.D.Denot). job_found (g.N.Near.view b.near) c.args.job c.see_job.result) c.self.view_is

pub returns-clause-exact : goal.returns-clause-exact
returns-clause-exact g c still = c.see_job.ensures.exact still ∙ ap (λ (b : BookOf g.row.N.Denot g.row.D.Denot). (g.N.Near.view b.near).copying.word c.args.job) c.self.view_is

pub returns-clause-set : goal.returns-clause-set
returns-clause-set g c still = c.see_job.ensures.set still ∙ ap (λ (b : BookOf g.row.N.Denot g.row.D.Denot). g.N.Near.view b.near) c.self.view_is

pub returns-clause-order : goal.returns-clause-order
returns-clause-order g c = ap (λ (b : BookOf g.row.N.Denot g.row.D.Denot). b.order) c.self.view_is

pub returns-clause-device : goal.returns-clause-device
returns-clause-device g c = ap (λ (b : BookOf g.row.N.Denot g.row.D.Denot). b.device) c.self.view_is
