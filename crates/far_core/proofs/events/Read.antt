-- What the event Read owes.
use Rattle.std.proofs.Common.{◌≡◌, ℕ, ◌-◌, ◌*◌, ◌^◌, ◌<◌, ◌∙◌, arith, inl, inr, ap, refl, sym, subst, Option, Some}
use Rattle.std.proofs.lemmas.Bool.Decides.{nat_tests}
use Rattle.far_log.specs.Spans.{head_len}
use Rattle.far_events.specs.declared.event.Event.TheVariants.{Read}
use Rattle.far_events.specs.declared.event.Task.{Task}
use Rattle.far_events.specs.events.Read.{after_read}
use Rattle.far_events.specs.events.Step.{change_of}
use Rattle.far_events.specs.events.Tasks.{HasTask}
use Rattle.far_core.specs.laws.Worlds.{Caused}
use Rattle.far_events.specs.state.Jobs.{job_words, source}
use Rattle.far_events.specs.state.Law.{Law}
use Rattle.far_events.specs.state.State.{State, addr, put}
use Rattle.far_core.proofs.KeepJobs.{copying_stays, law_with_copying}
use Rattle.far_events.proofs.JobPlaces.{task_at}
use Rattle.far_core.proofs.Owed.{Owed, replies}
use Rattle.far_events.proofs.Put.{put_cases, put_cases_of, put_other, put_same}
use Rattle.far_core.proofs.Touching.{copier_touched}
use Rattle.far_events.proofs.CopierCalls.{read_fact}

module _ (s : State) (law : Law s) (c i : ℕ) (t : Task) (has : HasTask s c t) (low : i < job_words s.word t.job) where
  abbrev now : ℕ → ℕ → Option ℕ
  now = put s.copying.read c (put (s.copying.read c) i (Some (source s.word t.job i)))

  -- what a copier has read now, it had read, or it is this word
  either : (d n v : ℕ) (x : Task) → s.copying.task d ≡ Some x → now d n ≡ Some v → (P : Task → ℕ → ℕ → Type 0) → P t i (source s.word t.job i) → (s.copying.read d n ≡ Some v → P x n v) → P x n v
  either d n v x is r P here there = elim (put_cases_of s.copying.read c _ d (λ f. f n ≡ Some v) r) [
    | inl (e, r) ↦ elim (put_cases (s.copying.read c) i _ n (Some v) r) [
      | inl (at, r) ↦ (let both : Some t ≡ Some x = sym has ∙ ap s.copying.task (sym e) ∙ is in
          let one : t ≡ x = cc in let got : source s.word t.job i ≡ v = cc in
          subst (λ y. P x y v) (sym at) (subst (λ y. P x i y) got (subst (λ y. P y i (source s.word t.job i)) one here)))
      | inr (other, r) ↦ there (ap (λ y. s.copying.read y n) e ∙ r)
    ]
    | inr (ne, r) ↦ there r
  ]

  pub keeps_read : Law (after_read s c i (source s.word t.job i))
  keeps_read =
      let copies = law.copies in
      let spans = copies.jobs.job_spans t.number t.job (task_at s.word s.copying copies.taken c t has) in
      law_with_copying s _ law (record {
        jobs = copies.jobs;
        taken = record {
          taken_by = copies.taken.taken_by;
          takes = copies.taken.takes;
          long = copies.taken.long;
          fits = λ d n v x is r. either d n v x is r (λ y m u. (m < job_words s.word y.job) × (u < 2 ^ 64) × (u < 2 ^ (8 * (head_len (s.word (addr y.job.from)) - 8 * m))))
              (low, law.spans.word_fits _, law.spans.span_padding (addr t.job.from) spans.from i low) (copies.taken.fits d n v x is);
        };
        aims = copies.aims;
        good = copies.good;
        same = record {
          read = λ d n v x is good r. either d n v x is r (λ y m u. source s.word y.job m ≡ u) refl (copies.same.read d n v x is good);
          written = copies.same.written;
          finished = copies.same.finished;
        };
      })

module _ (c i : ℕ) where
  pub read_owed : Owed (Read c i)
  read_owed = record {
    fact = λ s law h. read_fact s c i (s.copying.task c) refl h;
    test = λ s h. let low : i < job_words s.word h.0.job = h.2 in rw h.1 (grind (arith, nat_tests));
    keeps = λ s law fits h. rw h.1 (keeps_read s law c i h.0 h.1 h.2);
    does = λ s law fits h. copying_stays s _;
    within = λ s. copier_touched c (λ a ne. refl) refl refl refl (λ d ne. record { task = refl; length = refl; read = put_other s.copying.read c _ d ne; written = refl });
    part = λ s h. inr (inr (inl (i, refl)));
    word = λ s h. tt;
    reports = λ s law h. (refl, ap (λ (f : ℕ → Option ℕ). f i) (put_same s.copying.read c _ c refl) ∙ put_same (s.copying.read c) i _ i refl);
    silent = λ s t h. h;
    answers = λ s x. cc;
    causes = replies (λ r. Caused (Read c i) (change_of (Read c i) r)) tt tt (λ n. tt) (λ x. tt) (λ place. tt);
  }
