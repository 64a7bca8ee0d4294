use Rattle.far_book.proofs.book.Book.empty_job.Goals as goal
use Rattle.std.proofs.Common.{◌≡◌, ◌∙◌, ap, refl, subst, sym, true, arith}
use Rattle.std.proofs.lemmas.Bool.{eq-eqb}
use Rattle.far_word.specs.Job.{job_of}
use Rattle.far_events.specs.events.Collect.{collected, is_loose}
use Rattle.far_events.specs.state.State.{State}
use Rattle.far_book.specs.book.BookOf.{BookOf}
use Rattle.far_book.specs.book.FarSide.{InOrder}
use Rattle.far_hand.specs.FindsJob.{FindsJob, job_found}
use Rattle.far_book.proofs.region.JobSteps.{emptied_keeps, job_keeps}
use Rattle.far_hand.proofs.Closure.{first_call}
use Rattle.far_book.proofs.region.Handed.{since_book}

-- ---- what is asked of what is called
pub collect-requires-clause-seen : goal.collect-requires-clause-seen
collect-requires-clause-seen g c = c.requires.seen ∙ sym (ap (λ (b : BookOf g.row.N.Denot g.row.D.Denot). (g.N.Near.view b.near).copying.word c.args.job) c.self.view_is)

pub collect-requires-clause-legal : goal.collect-requires-clause-legal
collect-requires-clause-legal g c = (c.requires.range, c.requires.loose)

pub empty-requires-clause-range : goal.empty-requires-clause-range
empty-requires-clause-range g c = c.requires.range

pub empty-requires-clause-sized : goal.empty-requires-clause-sized
empty-requires-clause-sized g c = c.self.invariant.0.notes.jobs.sized

pub invariant_of-self : goal.invariant_of-self
invariant_of-self g c =
    let s = g.N.Near.view c.self.inside.near in
    let is : c.args.word ≡ s.copying.word c.args.job = c.requires.seen ∙ sym (ap (λ (b : BookOf g.row.N.Denot g.row.D.Denot). (g.N.Near.view b.near).copying.word c.args.job) c.self.view_is) in
    let emptied : g.N.Near.view c.collect.new.self ≡ collected s c.args.job = c.in-Ok.ensures.done ∙ rw (eq-eqb (s.copying.word c.args.job) c.args.word (sym is)) refl in (
      subst (λ (u : State). InOrder u record c.self.inside.ledger { jobs = c.empty.new.self } (g.D.Device.contents c.self.inside.device) (g.D.Device.honest c.self.inside.device)) (sym emptied)
          (emptied_keeps s c.self.inside.ledger (g.D.Device.contents c.self.inside.device) (g.D.Device.honest c.self.inside.device) c.self.invariant.0 c.args.job c.requires.range
          c.empty.new.self (subst (λ w. is_loose (job_of w) ≡ true) is c.requires.loose) c.empty.ensures),
      c.self.invariant.1,
    )

pub invariant_of-self-in-Err : goal.invariant_of-self-in-Err
invariant_of-self-in-Err g c =
    let s = g.N.Near.view c.self.inside.near in
    let is : c.args.word ≡ s.copying.word c.args.job = c.requires.seen ∙ sym (ap (λ (b : BookOf g.row.N.Denot g.row.D.Denot). (g.N.Near.view b.near).copying.word c.args.job) c.self.view_is) in (
      subst (λ (u : State). InOrder u c.self.inside.ledger (g.D.Device.contents c.self.inside.device) (g.D.Device.honest c.self.inside.device)) (sym c.in-Err.ensures.kept)
          (job_keeps s c.self.inside.ledger (g.D.Device.contents c.self.inside.device) (g.D.Device.honest c.self.inside.device) c.self.invariant.0 c.args.job c.requires.range
          c.in-Err.found (omega arith) (subst (λ w. FindsJob w c.in-Err.found) is c.in-Err.ensures.found)),
      c.self.invariant.1,
    )

pub returns-in-Ok-clause-came : goal.returns-in-Ok-clause-came
returns-in-Ok-clause-came g c = since_book c.self.view_is (first_call _ _ c.in-Ok.ensures.made)

pub returns-in-Err-clause-came : goal.returns-in-Err-clause-came
returns-in-Err-clause-came g c = since_book c.self.view_is (first_call _ _ c.in-Err.ensures.lost)

pub returns-in-Ok-clause-done : goal.returns-in-Ok-clause-done
returns-in-Ok-clause-done g c =
    let s = g.N.Near.view c.self.inside.near in
    let is : c.args.word ≡ s.copying.word c.args.job = c.requires.seen ∙ sym (ap (λ (b : BookOf g.row.N.Denot g.row.D.Denot). (g.N.Near.view b.near).copying.word c.args.job) c.self.view_is) in
    let emptied : g.N.Near.view c.collect.new.self ≡ collected s c.args.job = c.in-Ok.ensures.done ∙ rw (eq-eqb (s.copying.word c.args.job) c.args.word (sym is)) refl in
    emptied ∙ ap (λ (b : BookOf g.row.N.Denot g.row.D.Denot). collected (g.N.Near.view b.near) c.args.job) c.self.view_is

pub returns-in-Ok-clause-order : goal.returns-in-Ok-clause-order
returns-in-Ok-clause-order g c = ap (λ (b : BookOf g.row.N.Denot g.row.D.Denot). b.order) c.self.view_is

pub returns-in-Ok-clause-device : goal.returns-in-Ok-clause-device
returns-in-Ok-clause-device g c = ap (λ (b : BookOf g.row.N.Denot g.row.D.Denot). b.device) c.self.view_is

pub returns-in-Err-clause-other : goal.returns-in-Err-clause-other
returns-in-Err-clause-other g c = c.in-Err.ensures.other

pub returns-in-Err-clause-found : goal.returns-in-Err-clause-found
returns-in-Err-clause-found g c = c.in-Err.ensures.found

pub returns-in-Err-clause-won : goal.returns-in-Err-clause-won
returns-in-Err-clause-won g c = c.in-Err.ensures.won

pub returns-in-Err-clause-kept : goal.returns-in-Err-clause-kept
returns-in-Err-clause-kept g c = c.in-Err.ensures.kept ∙ ap (λ (b : BookOf g.row.N.Denot g.row.D.Denot). job_found (g.N.Near.view b.near) c.args.job c.in-Err.found) c.self.view_is

pub returns-in-Err-clause-order : goal.returns-in-Err-clause-order
returns-in-Err-clause-order g c = ap (λ (b : BookOf g.row.N.Denot g.row.D.Denot). b.order) c.self.view_is

pub returns-in-Err-clause-device : goal.returns-in-Err-clause-device
returns-in-Err-clause-device g c = ap (λ (b : BookOf g.row.N.Denot g.row.D.Denot). b.device) c.self.view_is

-- ---- clauses that say nothing of this answer
pub returns-in-Ok-clause-other : goal.returns-in-Ok-clause-other
returns-in-Ok-clause-other g c = tt

pub returns-in-Ok-clause-found : goal.returns-in-Ok-clause-found
returns-in-Ok-clause-found g c = tt

pub returns-in-Ok-clause-kept : goal.returns-in-Ok-clause-kept
returns-in-Ok-clause-kept g c = tt

pub returns-in-Ok-clause-won : goal.returns-in-Ok-clause-won
returns-in-Ok-clause-won g c still = tt

pub returns-in-Err-clause-done : goal.returns-in-Err-clause-done
returns-in-Err-clause-done g c = tt
