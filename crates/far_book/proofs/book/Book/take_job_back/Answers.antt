use Rattle.far_book.proofs.book.Book.take_job_back.Given.{Over}
use Rattle.far_book.proofs.book.Book.take_job_back.Goals.{After-empty_job, After-is_offered}
use Rattle.far_book.proofs.book.Book.take_job_back.Goals as goal
use Rattle.std.proofs.Common.{◌≡◌, ◌≢◌, ◌∙◌, true, false, Option, Some, None, Result, Ok, Err, IfOk, IfErr, ℕ, ap, refl, sym}
use Rattle.std.specs.Prelude.{is_some, not}
use Rattle.far_word.specs.declared.job.Job.{Job}
use Rattle.far_word.specs.declared.job.JobWord.TheVariants.{Offered}
use Rattle.far_word.specs.Job.{job_of}
use Rattle.far_events.specs.events.Collect.{collected}
use Rattle.far_events.specs.state.Jobs.{job_at}
use Rattle.far_events.specs.state.State.{State}
use Rattle.far_hand.specs.FindsJob.{FindsJob, job_found}
use Rattle.far_hand.proofs.Closure.{no_call, then_came}
use Rattle.far_hand.proofs.JobsFound.{job_more}
use Rattle.far_book.specs.declared.jobs.Noted.{Noted}
use Rattle.far_book.specs.book.BookOf.{BookOf}
use Rattle.far_book.specs.book.Collecting.{BackKnown, back_known, taken_back}
use Rattle.far_book.proofs.region.Going.{back_goes, back_none, back_offered, back_stays, found_twice, offered_lost}
use Rattle.far_book.proofs.region.JobNotes.{known_job, unknown_job}

none_by : (o : Option Noted) → is_some o ≡ false → o ≡ None
none_by None e = refl
none_by (Some n) e = absurd cc

some_by : (o : Option Noted) → is_some o ≡ true → (n : Noted) × (o ≡ Some n)
some_by None e = absurd cc
some_by (Some n) e = (n, refl)

pub returns-then-is_none-clause-takes : goal.returns-then-is_none-clause-takes
returns-then-is_none-clause-takes g c =
    let b = c.self.inside in
    let s = g.N.Near.view b.near in
    let same = ap (λ (x : BookOf g.row.N.Denot g.row.D.Denot). g.N.Near.view x.near) c.self.view_is in
    let none = unknown_job s.round_epoch s.round s.copying b.ledger.jobs c.self.invariant.0.notes.jobs c.args.job (sym c.noted.ensures ∙ none_by c.noted.result c.if-is_none.ensures) in
    back_none (g.N.Near.view c.args.self.now.near) (g.N.Near.view c.args.self.now.near) c.args.job _ (ap (λ (x : State). job_at x.copying.word c.args.job) (sym same) ∙ none) refl

pub returns-then-is_none-clause-exact : goal.returns-then-is_none-clause-exact
returns-then-is_none-clause-exact g c still =
    let b = c.self.inside in
    let s = g.N.Near.view b.near in
    let now = g.N.Near.view c.args.self.now.near in
    let same = ap (λ (x : BookOf g.row.N.Denot g.row.D.Denot). g.N.Near.view x.near) c.self.view_is in
    let none = unknown_job s.round_epoch s.round s.copying b.ledger.jobs c.self.invariant.0.notes.jobs c.args.job (sym c.noted.ensures ∙ none_by c.noted.result c.if-is_none.ensures) in
    sym (ap (back_known now c.args.job) (ap (λ (x : State). job_at x.copying.word c.args.job) (sym same) ∙ none))

pub returns-then-is_none-clause-none : goal.returns-then-is_none-clause-none
returns-then-is_none-clause-none g c _ = refl

pub returns-then-is_none-clause-came : goal.returns-then-is_none-clause-came
returns-then-is_none-clause-came g c = no_call refl

pub returns-then-is_none-clause-order : goal.returns-then-is_none-clause-order
returns-then-is_none-clause-order g c = refl

pub returns-then-is_none-clause-device : goal.returns-then-is_none-clause-device
returns-then-is_none-clause-device g c = refl

-- ---- it was looked at
done_of : (r : Result (Unit {0}) ℕ) (A : Type 0) → IfOk r (λ _. A) → IfErr r (λ _. ⊥) → A
done_of (Ok x) A a odd = a
done_of (Err w) A a odd = absurd odd

some_isnt : (o : Option Job) (job : Job) → o ≡ Some job → o ≡ None → ⊥
some_isnt o job is none = cc

module _ (g : Over) (c : After-is_offered g) where
  here : (n : Noted) × (job_at (g.N.Near.view c.args.self.now.near).copying.word c.args.job ≡ Some n.job)
  here =
      let b = c.self.inside in
      let u = g.N.Near.view b.near in
      let same = ap (λ (x : BookOf g.row.N.Denot g.row.D.Denot). g.N.Near.view x.near) c.self.view_is in
      let n = some_by c.noted.result (c.is_none.ensures ∙ ap not c.if-is_none.false) in
      (n.0, ap (λ (x : State). job_at x.copying.word c.args.job) (sym same) ∙ (known_job u.round_epoch u.round u.copying b.ledger.jobs c.self.invariant.0.notes.jobs c.args.job n.0 (sym c.noted.ensures ∙ n.1)).0)

  -- where it isn't offered it stays
  stays : c.is_offered.result ≡ false → g.N.Near.view c.see_job-word.new.self.near ≡ taken_back (g.N.Near.view c.args.self.now.near) c.args.job c.see_job-word.result (job_of c.see_job-word.result)
  stays other = c.see_job-word.ensures.kept ∙ sym (back_stays (g.N.Near.view c.args.self.now.near) c.args.job c.see_job-word.result (c.is_offered.ensures.not_so other))

  -- over a hand that is still this is what was known of it
  as_known : g.N.Near.still → taken_back (g.N.Near.view c.args.self.now.near) c.args.job c.see_job-word.result (job_of c.see_job-word.result)
      ≡ back_known (g.N.Near.view c.args.self.now.near) c.args.job (job_at (g.N.Near.view c.args.self.now.near).copying.word c.args.job)
  as_known still =
      let s = g.N.Near.view c.args.self.now.near in
      ap (λ w. taken_back s c.args.job w (job_of w)) (c.see_job-word.ensures.exact still) ∙ sym (ap (back_known s c.args.job) here.1)

-- ---- it was found offered
module _ (g : Over) (c : After-empty_job g) where
  abbrev s : State
  s = g.N.Near.view c.args.self.now.near

  known : (n : Noted) × (job_at s.copying.word c.args.job ≡ Some n.job)
  known = here g (goal.at.After-empty_job g c).After-is_offered

  offered : (x : Job) × (job_of c.see_job-word.result ≡ Some (Offered x))
  offered = c.is_offered.ensures.so c.if-is_offered.true

  by_result : (r : Result (Unit {0}) ℕ) → IfOk r (λ _. g.N.Near.view c.empty_job.new.self.near ≡ collected (g.N.Near.view c.see_job-word.new.self.near) c.args.job) →
      IfErr r (λ found. found ≢ c.see_job-word.result) → IfErr r (λ found. FindsJob c.see_job-word.result found) →
      IfErr r (λ found. g.N.Near.view c.empty_job.new.self.near ≡ job_found (g.N.Near.view c.see_job-word.new.self.near) c.args.job found) → BackKnown s (g.N.Near.view c.empty_job.new.self.near) c.args.job (job_at s.copying.word c.args.job)
  by_result (Ok x) done other found kept = back_goes s _ c.args.job c.see_job-word.result known.0.job _ known.1 c.see_job-word.ensures.found
      (done ∙ ap (λ (x : State). collected x c.args.job) c.see_job-word.ensures.kept ∙ sym (back_offered s c.args.job c.see_job-word.result offered.0 offered.1))
  by_result (Err w) done other found kept = back_goes s _ c.args.job w known.0.job _ known.1 (job_more (s.copying.word c.args.job) c.see_job-word.result w c.see_job-word.ensures.found found)
      (kept ∙ ap (λ (x : State). job_found x c.args.job w) c.see_job-word.ensures.kept ∙ found_twice s c.args.job c.see_job-word.result w
      ∙ sym (back_stays s c.args.job w (offered_lost c.see_job-word.result w offered.0 offered.1 found other)))

pub returns-then-is_offered-clause-takes : goal.returns-then-is_offered-clause-takes
returns-then-is_offered-clause-takes g c = by_result g c c.empty_job.result c.empty_job.ensures.done c.empty_job.ensures.other c.empty_job.ensures.found c.empty_job.ensures.kept

pub returns-then-is_offered-clause-came : goal.returns-then-is_offered-clause-came
returns-then-is_offered-clause-came g c = then_came c.see_job-word.ensures.came c.empty_job.ensures.came

pub returns-then-is_offered-clause-exact : goal.returns-then-is_offered-clause-exact
returns-then-is_offered-clause-exact g c still =
    let done = done_of c.empty_job.result _ c.empty_job.ensures.done (c.empty_job.ensures.won still) in
    let is = offered g (goal.at.returns-then-is_offered-clause-exact g c).After-empty_job in
    done ∙ ap (λ (x : State). collected x c.args.job) c.see_job-word.ensures.kept ∙ sym (back_offered (g.N.Near.view c.args.self.now.near) c.args.job c.see_job-word.result is.0 is.1)
    ∙ as_known g (goal.at.returns-then-is_offered-clause-exact g c).After-is_offered still

pub returns-then-is_offered-clause-none : goal.returns-then-is_offered-clause-none
returns-then-is_offered-clause-none g c none = let n = here g (goal.at.returns-then-is_offered-clause-none g c).After-is_offered in absurd (some_isnt _ n.0.job n.1 none)

pub returns-then-is_offered-clause-order : goal.returns-then-is_offered-clause-order
returns-then-is_offered-clause-order g c = c.empty_job.ensures.order ∙ c.see_job-word.ensures.order

pub returns-then-is_offered-clause-device : goal.returns-then-is_offered-clause-device
returns-then-is_offered-clause-device g c = c.empty_job.ensures.device ∙ c.see_job-word.ensures.device

-- ---- it was found otherwise
pub returns-else-is_offered-clause-takes : goal.returns-else-is_offered-clause-takes
returns-else-is_offered-clause-takes g c =
    let h = (goal.at.returns-else-is_offered-clause-takes g c).After-is_offered in
    let n = here g h in
    back_goes (g.N.Near.view c.args.self.now.near) (g.N.Near.view c.see_job-word.new.self.near) c.args.job c.see_job-word.result n.0.job _ n.1 c.see_job-word.ensures.found (stays g h c.if-is_offered.false)

pub returns-else-is_offered-clause-exact : goal.returns-else-is_offered-clause-exact
returns-else-is_offered-clause-exact g c still = let h = (goal.at.returns-else-is_offered-clause-exact g c).After-is_offered in stays g h c.if-is_offered.false ∙ as_known g h still

pub returns-else-is_offered-clause-none : goal.returns-else-is_offered-clause-none
returns-else-is_offered-clause-none g c none = let n = here g (goal.at.returns-else-is_offered-clause-none g c).After-is_offered in absurd (some_isnt _ n.0.job n.1 none)

pub returns-else-is_offered-clause-came : goal.returns-else-is_offered-clause-came
returns-else-is_offered-clause-came g c = c.see_job-word.ensures.came

pub returns-else-is_offered-clause-order : goal.returns-else-is_offered-clause-order
returns-else-is_offered-clause-order g c = c.see_job-word.ensures.order

pub returns-else-is_offered-clause-device : goal.returns-else-is_offered-clause-device
returns-else-is_offered-clause-device g c = c.see_job-word.ensures.device
