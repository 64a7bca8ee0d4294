-- What holds of jobs in other words.
use Rattle.std.proofs.Common.{◌≡◌, ◌≢◌, ℕ, ◌/◌, ◌≤◌, ◌∙◌, true, false, arith, ap, refl, sym, Option, Some, None}
use Rattle.far_word.specs.declared.job.Job.{Job}
use Rattle.far_word.specs.declared.job.JobWord.TheVariants.{Taken}
use Rattle.far_word.specs.declared.pointer.Place.{Place}
use Rattle.far_word.specs.declared.pointer.PtrWord.{PtrWord}
use Rattle.far_word.specs.declared.pointer.PtrWord.TheVariants.{Free, Near, Far}
use Rattle.far_word.specs.declared.sizes.TheConstants.{LAST_AT, LOG_WORDS}
use Rattle.far_word.specs.Job.{job_of}
use Rattle.far_word.specs.Pointer.{read_of}
use Rattle.far_events.specs.declared.event.Kind.TheVariants as kinds
use Rattle.far_events.specs.declared.event.Task.{Task}
use Rattle.far_core.specs.laws.Jobs.{JobsStand}
use Rattle.far_events.specs.state.Jobs.{job_at, near_place}
use Rattle.far_events.specs.state.Law.{Law}
use Rattle.far_events.specs.state.State.{State, addr}
use Rattle.far_events.proofs.JobPlaces.{job_bounds, not_target}

-- a log in which a span begins isn't free
in_use : (s : State) → Law s → (place : Place) → place.at ≤ LAST_AT → s.starts (addr place) ≡ true → s.kind place.log ≢ kinds.Free
in_use s law place low begun free =
    let span = law.spans.span (addr place) begun in
    let log : addr place / LOG_WORDS ≡ place.log = omega arith in
    let here : s.tail (addr place / LOG_WORDS) ≡ s.tail place.log = ap s.tail log in
    let none : s.tail place.log ≡ 0 = law.logs.free_tail place.log free in
    omega (arith, span.fits)

module _ (s : State) (law : Law s) where
  -- whatever a cell says, it isn't a job's target
  dead_by : (j : ℕ) (job : Job) → job_at s.copying.word j ≡ Some job → s.copying.named j ≡ false → (p : ℕ) (o : Option PtrWord) → read_of (s.cell p) ≡ o → near_place o ≢ Some job.to
  dead_by j job at unnamed p None is e = absurd cc
  dead_by j job at unnamed p (Some Free) is e = absurd cc
  dead_by j job at unnamed p (Some (Near len ds place m)) is e =
      let same : place ≡ job.to = cc in
      not_target s law p len ds place m is j job at unnamed (ap addr same)
  dead_by j job at unnamed p (Some (Far len ds m)) is e = absurd cc

  one_copier : (c d : ℕ) (t u : Task) → Some (Taken t.job c) ≡ Some (Taken u.job d) → c ≡ d
  one_copier c d t u e = cc

  pub jobs_stand : JobsStand s
  jobs_stand = record {
    logs = λ j job at. let x = law.copies.jobs.job_spans j job at in let b = job_bounds s.copying j job at in (in_use s law job.from b.from.1 x.from, in_use s law job.to b.to.1 x.to);
    apart = law.copies.jobs.targets_differ;
    dead = λ j job at unnamed p. dead_by j job at unnamed p (read_of (s.cell p)) refl;
    copied = λ j c job e unnamed since inside. law.copies.same.finished j c job e (since ∙ sym law.rounds.own_epoch, inside) unnamed;
    said = law.copies.taken.takes;
    taken = law.copies.taken.taken_by;
    alone = λ c d t u a b e. one_copier c d t u (sym (law.copies.taken.takes c t a) ∙ ap (λ j. job_of (s.copying.word j)) e ∙ law.copies.taken.takes d u b);
  }
