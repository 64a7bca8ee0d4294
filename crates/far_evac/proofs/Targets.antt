-- Where an object comes that moves no job has copied it: the targets of jobs lie below the tails of their logs, through all of a walk.
use Rattle.std.proofs.Common.{◌≡◌, ◌≢◌, ℕ, ◌/◌, ◌<◌, ◌≤◌, true, false, Option, Some, None, arith, ap, sym, refl, ◌∙◌, subst}
use Rattle.std.proofs.lemmas.Bool.{false≢true}
use Rattle.far_word.specs.declared.job.Job.{Job}
use Rattle.far_word.specs.declared.pointer.Place.{Place}
use Rattle.far_word.specs.declared.sizes.TheConstants.{LOG_WORDS}
use Rattle.far_events.specs.events.Copied.{copied_job}
use Rattle.far_events.specs.state.Jobs.{IsGood, job_at, job_said}
use Rattle.far_events.specs.state.Law.{Law}
use Rattle.far_events.specs.state.State.{State, addr}
use Rattle.far_events.proofs.Copied.{copied_fact}
use Rattle.far_events.proofs.JobPlaces.{job_bounds}
use Rattle.far_events.proofs.Put.{put_both, put_other}
use Rattle.far_book.specs.book.Own.{own_part, unread}
use Rattle.far_book.proofs.region.Untaken.{untaken_said}
use Rattle.far_book.specs.book.Releasing.{released}
use Rattle.far_evac.specs.AnyHand.{Knows}
use Rattle.far_evac.proofs.Framed.{framed}

-- the target of a job that counts in the round lies below the tail of its log, which isn't in the round
abbrev pub LieBelow : State → Type 0
LieBelow s = (j : ℕ) (job : Job) → job_at s.copying.word j ≡ Some job → IsGood s.round_epoch s.round s.copying.since j job → (job.to.at < s.tail job.to.log) × (s.round job.to.log ≡ false)

pub lie_below : (s : State) → Law (own_part s) → LieBelow s
lie_below s law j job said good =
    let at : job_at (own_part s).copying.word j ≡ Some job = untaken_said (s.copying.word j) ∙ said in
    let begun = (law.copies.jobs.job_spans j job at).to in
    let span = law.spans.span (addr job.to) begun in
    let bounds = (job_bounds (unread s.copying) j job at).to in
    let log : addr job.to / LOG_WORDS ≡ job.to.log = omega (arith, bounds) in
    let here : s.tail (addr job.to / LOG_WORDS) ≡ s.tail job.to.log = ap s.tail log in
    (omega (arith, bounds, here, span.fits, span.some), law.copies.good.outside j job at good)

-- behind a tail nothing is copied
pub none_at_tail : (s : State) → LieBelow s → (p : ℕ) (from to : Place) → to.at ≡ s.tail to.log → copied_job s p from to ≡ None
none_at_tail s below p from to end = at_job (copied_job s p from to) refl where
  at_job : (o : Option ℕ) → copied_job s p from to ≡ o → o ≡ None
  at_job None e = refl
  at_job (Some j) e =
      let x = copied_fact s p from to j e in
      let low : to.at < s.tail to.log = (below j (record { pointer = p; from = from; to = to }) (ap job_said x.1.finished) x.1.good).0 in
      absurd (omega (arith, low, end))

-- ---- it stays so: as far as it is known
pub below_known : (s t : State) → Knows s t → LieBelow s → LieBelow t
below_known s t known below = subst LieBelow (sym known.rest) below

-- where an object was dealt with, since no tail falls
pub below_framed : (s t : State) → t ≡ framed s t → ((l : ℕ) → s.tail l ≤ t.tail l) → LieBelow s → LieBelow t
below_framed s t frame grows below j job at good =
    let x = below j job (sym (ap (λ (u : State). job_at u.copying.word j) frame) ∙ at)
    (sym (ap (λ (u : State). u.copying.since j) frame) ∙ good.0 ∙ ap (λ (u : State). u.round_epoch) frame, sym (ap (λ (u : State). u.round job.from.log) frame) ∙ good.1) in
    (omega (arith, x.0, grows job.to.log), ap (λ (u : State). u.round job.to.log) frame ∙ x.1)

-- where a log of the round was given back
pub below_released : (s : State) (l : ℕ) → s.round l ≡ true → LieBelow s → LieBelow (released s l)
below_released s l chosen below j job at good =
    let was : s.round job.from.log ≡ true = put_both (λ b. b ≡ true → s.round job.from.log ≡ true) s.round l false job.from.log (λ _ odd. absurd (false≢true odd)) (λ _ is. is) good.1 in
    let x = below j job at (good.0, was) in
    let other : job.to.log ≢ l = λ e. false≢true (sym x.1 ∙ ap s.round e ∙ chosen) in
    (subst (λ n. job.to.at < n) (sym (put_other s.tail l 0 job.to.log other)) x.0, put_other s.round l false job.to.log other ∙ x.1)
