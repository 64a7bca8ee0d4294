use Rattle.far_book.proofs.book.Book.collect_job.Given.{Over}
use Rattle.far_book.proofs.book.Book.collect_job.Goals.{In-Some}
use Rattle.far_book.proofs.book.Book.collect_job.Goals as goal
use Rattle.std.proofs.Common.{◌≡◌, ◌∙◌, ◌*◌, ◌<◌, ℕ, Bool, Option, Some, None, ap, refl, subst, sym, false}
use Rattle.far_word.specs.declared.job.Job.{Job}
use Rattle.far_word.specs.declared.sizes.TheConstants.{CELLS}
use Rattle.far_word.specs.Job.{job_of}
use Rattle.far_events.specs.state.Jobs.{job_at, job_said}
use Rattle.far_events.specs.state.State.{State, put}
use Rattle.far_events.proofs.Put.{put_same}
use Rattle.far_hand.specs.Finds.{Finds}
use Rattle.far_hand.specs.FindsJob.{job_found}
use Rattle.far_hand.proofs.Closure.{no_call, then_came}
use Rattle.far_hand.proofs.JobsFound.{same_job}
use Rattle.far_book.specs.book.BookOf.{BookOf}
use Rattle.far_book.specs.book.Collecting.{CollectsKnown, GoesAsFound, found_so, goes_known}
use Rattle.far_book.specs.book.Jobs.{is_good}
use Rattle.far_book.proofs.region.Going.{goes_on}
use Rattle.far_book.proofs.region.JobNotes.{job_pointer, known_job, unknown_job}

by_none : (s t : State) (j : ℕ) (o : Option Job) → o ≡ None → t ≡ s → CollectsKnown s t j o false
by_none s t j o none is = subst (λ (x : Option Job). CollectsKnown s t j x false) (sym none) (is, refl)

by_some : (s t : State) (j : ℕ) (o : Option Job) (job : Job) (names : Bool) → o ≡ Some job → GoesAsFound s t j job names → CollectsKnown s t j o names
by_some s t j o job names some goes = subst (λ (x : Option Job). CollectsKnown s t j x names) (sym some) goes

pub returns-in_default-clause-collects : goal.returns-in_default-clause-collects
returns-in_default-clause-collects g c =
    let b = c.self.inside in
    let s = g.N.Near.view b.near in
    let same : s ≡ g.N.Near.view c.args.self.now.near = ap (λ (x : BookOf g.row.N.Denot g.row.D.Denot). g.N.Near.view x.near) c.self.view_is in
    let none = unknown_job s.round_epoch s.round s.copying b.ledger.jobs c.self.invariant.0.notes.jobs c.args.job (sym c.noted.ensures ∙ c.in_default.is) in
    by_none (g.N.Near.view c.args.self.now.near) (g.N.Near.view c.args.self.now.near) c.args.job _ (ap (λ (x : State). job_at x.copying.word c.args.job) (sym same) ∙ none) refl

pub returns-in_default-clause-exact : goal.returns-in_default-clause-exact
returns-in_default-clause-exact g c still =
    let b = c.self.inside in
    let s = g.N.Near.view b.near in
    let same : s ≡ g.N.Near.view c.args.self.now.near = ap (λ (x : BookOf g.row.N.Denot g.row.D.Denot). g.N.Near.view x.near) c.self.view_is in
    let none = unknown_job s.round_epoch s.round s.copying b.ledger.jobs c.self.invariant.0.notes.jobs c.args.job (sym c.noted.ensures ∙ c.in_default.is) in
    ap (goes_known (g.N.Near.view c.args.self.now.near) c.args.job) (ap (λ (x : State). job_at x.copying.word c.args.job) (sym same) ∙ none)

pub returns-in_default-clause-none : goal.returns-in_default-clause-none
returns-in_default-clause-none g c _ = refl

pub returns-in_default-clause-came : goal.returns-in_default-clause-came
returns-in_default-clause-came g c = no_call refl

pub returns-in_default-clause-order : goal.returns-in_default-clause-order
returns-in_default-clause-order g c = refl

pub returns-in_default-clause-device : goal.returns-in_default-clause-device
returns-in_default-clause-device g c = refl

some_isnt : (o : Option Job) (job : Job) → o ≡ Some job → o ≡ None → ⊥
some_isnt o job is none = cc

-- ---- a job is written down
module _ (g : Over) (c : In-Some g) where
  same : g.N.Near.view c.self.inside.near ≡ g.N.Near.view c.args.self.now.near
  same = ap (λ (x : BookOf g.row.N.Denot g.row.D.Denot). g.N.Near.view x.near) c.self.view_is

  known : (job_at (g.N.Near.view c.self.inside.near).copying.word c.args.job ≡ Some c.in-Some.noted.job)
      × (c.in-Some.noted.good ≡ is_good (g.N.Near.view c.self.inside.near).round_epoch (g.N.Near.view c.self.inside.near).round (g.N.Near.view c.self.inside.near).copying.since c.args.job c.in-Some.noted.job)
  known =
      let s = g.N.Near.view c.self.inside.near in
      known_job s.round_epoch s.round s.copying c.self.inside.ledger.jobs c.self.invariant.0.notes.jobs c.args.job c.in-Some.noted (sym c.noted.ensures ∙ c.in-Some.is)

  here : job_at (g.N.Near.view c.args.self.now.near).copying.word c.args.job ≡ Some c.in-Some.noted.job
  here = ap (λ (x : State). job_at x.copying.word c.args.job) (sym same) ∙ known.0

pub see-cell-requires : goal.see-cell-requires
see-cell-requires g c =
    let h = (goal.at.see-cell-requires g c).In-Some in
    let low = job_pointer (g.N.Near.view c.self.inside.near) c.self.invariant.0.notes.law c.args.job c.in-Some.noted.job (known g h).0 in
    record { pointer = subst (λ (x : State). c.in-Some.noted.job.pointer < CELLS * x.mutators) (same g h ∙ sym (λ i. record (c.see_job-word.ensures.kept i) { copying = (g.N.Near.view c.args.self.now.near).copying })) low }

-- ---- it was looked at
found_by : (s t u : State) (j word cell : ℕ) (job : Job) → t ≡ job_found s j word → u ≡ record t { cell = put t.cell job.pointer cell } → u ≡ found_so s j job word cell
found_by s t u j word cell job jobs cells = cells ∙ ap (λ (x : State). record x { cell = put x.cell job.pointer cell }) jobs

pub end_job-requires-clause-is : goal.end_job-requires-clause-is
end_job-requires-clause-is g c =
    let h = goal.at.end_job-requires-clause-is g c in
    let s = g.N.Near.view c.args.self.now.near in
    ap (λ (x : State). job_at x.copying.word c.args.job) (found_by s _ _ c.args.job c.see_job-word.result c.see-cell.result c.in-Some.noted.job c.see_job-word.ensures.kept c.see-cell.ensures.kept) ∙ ap (λ w. job_said (job_of w)) (put_same s.copying.word c.args.job c.see_job-word.result c.args.job refl)
    ∙ same_job (s.copying.word c.args.job) c.see_job-word.result c.see_job-word.ensures.found ∙ here g h.In-Some

pub returns-clause-collects : goal.returns-clause-collects
returns-clause-collects g c =
    let h = goal.at.returns-clause-collects g c in
    let s = g.N.Near.view c.args.self.now.near in
    let job = c.in-Some.noted.job in
    let sees : Finds (s.cell job.pointer) c.see-cell.result = subst (λ (x : State). Finds (x.cell job.pointer) c.see-cell.result) c.see_job-word.ensures.kept c.see-cell.ensures.found in
    by_some s (g.N.Near.view c.end_job.new.self.near) c.args.job _ job c.end_job.result (here g h.In-Some)
    (goes_on s c.args.job job c.see_job-word.result c.see-cell.result (g.N.Near.view c.end_job.new.self.near) c.end_job.result c.see_job-word.ensures.found sees
    (subst (λ (x : State). GoesAsFound x (g.N.Near.view c.end_job.new.self.near) c.args.job job c.end_job.result) (found_by s _ _ c.args.job c.see_job-word.result c.see-cell.result job c.see_job-word.ensures.kept c.see-cell.ensures.kept) c.end_job.ensures.goes))

pub returns-clause-came : goal.returns-clause-came
returns-clause-came g c = then_came (then_came c.see_job-word.ensures.came c.see-cell.ensures.came) c.end_job.ensures.came

pub end_job-requires-clause-range : goal.end_job-requires-clause-range
end_job-requires-clause-range g c = c.requires.range

pub end_job-requires-clause-seen : goal.end_job-requires-clause-seen
end_job-requires-clause-seen g c =
    let s = g.N.Near.view c.args.self.now.near in
    sym (ap (λ (x : State). x.copying.word c.args.job) (found_by s _ _ c.args.job c.see_job-word.result c.see-cell.result c.in-Some.noted.job c.see_job-word.ensures.kept c.see-cell.ensures.kept) ∙ put_same s.copying.word c.args.job c.see_job-word.result c.args.job refl)

pub end_job-requires-clause-good : goal.end_job-requires-clause-good
end_job-requires-clause-good g c =
    let h = (goal.at.end_job-requires-clause-good g c).In-Some in
    let s = g.N.Near.view c.args.self.now.near in
    (known g h).1 ∙ ap (λ (x : State). is_good x.round_epoch x.round x.copying.since c.args.job c.in-Some.noted.job) (same g h)
    ∙ sym (ap (λ (x : State). is_good x.round_epoch x.round x.copying.since c.args.job c.in-Some.noted.job) (found_by s _ _ c.args.job c.see_job-word.result c.see-cell.result c.in-Some.noted.job c.see_job-word.ensures.kept c.see-cell.ensures.kept))

pub end_job-requires-clause-found : goal.end_job-requires-clause-found
end_job-requires-clause-found g c =
    let p = c.in-Some.noted.job.pointer in
    sym (ap (λ (x : State). x.cell p) c.see-cell.ensures.kept ∙ put_same (g.N.Near.view c.see_job-word.new.self.near).cell p c.see-cell.result p refl)

pub returns-clause-exact : goal.returns-clause-exact
returns-clause-exact g c still =
    let s = g.N.Near.view c.args.self.now.near in
    let job = c.in-Some.noted.job in
    ap (goes_known s c.args.job) (here g (goal.at.returns-clause-exact g c).In-Some) ∙ ap (λ (x : State). goes_known x c.args.job (Some job)) (sym (c.see-cell.ensures.set still ∙ c.see_job-word.ensures.set still))
    ∙ c.end_job.ensures.exact still

pub returns-clause-none : goal.returns-clause-none
returns-clause-none g c none = absurd (some_isnt _ c.in-Some.noted.job (here g (goal.at.returns-clause-none g c).In-Some) none)

pub returns-clause-order : goal.returns-clause-order
returns-clause-order g c = c.end_job.ensures.order ∙ c.see-cell.ensures.order ∙ c.see_job-word.ensures.order

pub returns-clause-device : goal.returns-clause-device
returns-clause-device g c = c.end_job.ensures.device ∙ c.see-cell.ensures.device ∙ c.see_job-word.ensures.device
