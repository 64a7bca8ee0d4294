-- What the event Finish owes.
use Rattle.std.proofs.Common.{◌≡◌, ℕ, ◌<◌, ◌∙◌, true, false, inl, inr, ap, refl, sym, subst, Option, Some, None}
use Rattle.std.proofs.lemmas.Bool.{false≢true, true≢false}
use Rattle.far_word.specs.declared.job.JobWord.TheVariants.{Taken, Finished}
use Rattle.far_word.specs.declared.sizes.TheConstants.{JOBS, MOST_COPIERS}
use Rattle.far_word.specs.Job.{IsJob, job_of, job_word}
use Rattle.far_word.proofs.JobLaws.{job_back, job_fits, job_says}
use Rattle.far_events.specs.declared.event.Event.TheVariants.{Finish}
use Rattle.far_events.specs.declared.event.Task.{Task}
use Rattle.far_events.specs.events.Finish.{after_finish, finished, job_spot}
use Rattle.far_core.specs.laws.Leaves.{WordBy}
use Rattle.far_events.specs.events.Step.{change_of}
use Rattle.far_events.specs.events.Tasks.{AllWritten, HasTask, task_written}
use Rattle.far_events.specs.events.Touch.{CopierAt, Touches}
use Rattle.far_core.specs.laws.Worlds.{Caused}
use Rattle.far_events.specs.state.Jobs.{IsGood, is_finished, job_at, job_said, job_words, source, target}
use Rattle.far_events.specs.state.Law.{Law}
use Rattle.far_events.specs.state.State.{State}
use Rattle.far_core.specs.world.WorldOf.{world_of}
use Rattle.far_core.proofs.KeepJobs.{copying_stays, law_with_copying, reworded_jobs, reworded_aims, reworded_good}
use Rattle.far_events.proofs.JobPlaces.{job_low, task_at}
use Rattle.far_core.proofs.Owed.{Owed, replies}
use Rattle.far_events.proofs.Put.{put_cases, put_cases_of, put_other, put_same}
use Rattle.far_core.proofs.Touching.{copier_touched, one_job, untouched}
use Rattle.far_events.proofs.events.Finish.{written_below, written_all}

finish_fact : (s : State) (c : ℕ) (o : Option Task) → s.copying.task c ≡ o → task_written s c o ≡ true → (t : Task) × HasTask s c t × AllWritten (s.copying.written c) (job_words s.word t.job)
finish_fact s c None e h = absurd (false≢true h)
finish_fact s c (Some t) e h = (t, e, λ i lt. written_below (s.copying.written c) (job_words s.word t.job) i h lt)

module _ (s : State) (law : Law s) (c : ℕ) (t : Task) (has : HasTask s c t) (all : AllWritten (s.copying.written c) (job_words s.word t.job)) where
  taken : job_of (s.copying.word t.number) ≡ Some (Taken t.job c)
  taken = law.copies.taken.takes c t has

  bounds : IsJob t.job × (c < MOST_COPIERS)
  bounds = (job_says (s.copying.word t.number) (Taken t.job c) taken).0

  abbrev w : ℕ
  w = job_word (Finished t.job c)

  pub reads : job_of w ≡ Some (Finished t.job c)
  reads = job_back (Finished t.job c) bounds

  same : job_said (job_of w) ≡ job_at s.copying.word t.number
  same = ap job_said reads ∙ sym (ap job_said taken)

  low : t.number < JOBS
  low = job_low s.word s.starts s.copying.word s.copying.named law.copies.jobs t.number t.job (task_at s.word s.copying law.copies.taken c t has)

  -- no other copier has the job
  alone : (d : ℕ) (x : Task) → s.copying.task d ≡ Some x → x.number ≡ t.number → d ≡ c
  alone d x e is = let both : Some (Taken x.job d) ≡ Some (Taken t.job c) = sym (law.copies.taken.takes d x e) ∙ ap (λ i. job_of (s.copying.word i)) is ∙ taken in cc

  pub keeps_finished : Law (finished s c t)
  keeps_finished =
      let k = s.copying in
      let copies = law.copies in
      law_with_copying s _ law (record {
        jobs = reworded_jobs k.word t.number w same s.word s.starts k.named copies.jobs (job_fits (Finished t.job c) bounds) (rw reads refl) low
            (λ other e undone. absurd (true≢false (sym (ap is_finished reads) ∙ undone)));
        taken = record {
          taken_by = λ i d other is. elim (put_cases_of k.word t.number w i (λ x. job_of x ≡ Some (Taken other d)) is) [
            | inl (e, is) ↦ (let odd : Some (Finished t.job c) ≡ Some (Taken other d) = sym reads ∙ is in absurd cc)
            | inr (ne, is) ↦ (let old = copies.taken.taken_by i d other is in
                put_other k.task c None d (λ e. let both : Some (record { number = i; job = other }) ≡ Some t = sym old ∙ ap k.task e ∙ has in absurd (ne (cc))) ∙ old)
          ];
          takes = λ d x is. elim (put_cases k.task c None d (Some x) is) [
            | inl (e, is) ↦ absurd cc
            | inr (ne, is) ↦ ap job_of (put_other k.word t.number w x.number (λ e. ne (alone d x is e))) ∙ copies.taken.takes d x is
          ];
          long = λ d n x is l. elim (put_cases k.task c None d (Some x) is) [ inl (e, is) ↦ absurd cc | inr (ne, is) ↦ copies.taken.long d n x is l ];
          fits = λ d i v x is r. elim (put_cases k.task c None d (Some x) is) [ inl (e, is) ↦ absurd cc | inr (ne, is) ↦ copies.taken.fits d i v x is r ];
        };
        aims = reworded_aims k.word t.number w same s.cell k.named copies.aims;
        good = reworded_good k.word t.number w same s.round_epoch s.round s.clear k.since copies.good;
        same = record {
          read = λ d i v x is good r. elim (put_cases k.task c None d (Some x) is) [ inl (e, is) ↦ absurd cc | inr (ne, is) ↦ copies.same.read d i v x is good r ];
          written = λ d i x is good r lt. elim (put_cases k.task c None d (Some x) is) [ inl (e, is) ↦ absurd cc | inr (ne, is) ↦ copies.same.written d i x is good r lt ];
          finished = λ i d other is good unnamed n lt. elim (put_cases_of k.word t.number w i (λ x. job_of x ≡ Some (Finished other d)) is) [
            | inl (e, is) ↦ (let both : Some (Finished t.job c) ≡ Some (Finished other d) = sym reads ∙ is in
                let one : t.job ≡ other = cc in
                subst (λ o. IsGood s.round_epoch s.round k.since i o → n < job_words s.word o → target s.word o n ≡ source s.word o n) one
                (λ g l. copies.same.written c n t has (ap k.since (sym e) ∙ g.0, g.1) (all n l) l) good lt)
            | inr (ne, is) ↦ copies.same.finished i d other is good unnamed n lt
          ];
        };
      })

module _ (s : State) (c : ℕ) where
  touch_finish : (o : Option Task) → Touches s (record { word = job_spot o; part = CopierAt c }) (after_finish s c o)
  touch_finish None = untouched s _
  touch_finish (Some t) = copier_touched c (one_job s.epoch s.scope s.cell s.word s.copying.word t.number _) refl refl refl
      (λ d ne. record { task = put_other s.copying.task c None d ne; length = refl; read = refl; written = refl })

  finish_word : (o : Option Task) → WordBy s (Finish c) (job_spot o)
  finish_word None = tt
  finish_word (Some t) = inr (inr (inl (c, refl)))

  finish_stays : (o : Option Task) → world_of (after_finish s c o) ≡ world_of s
  finish_stays None = refl
  finish_stays (Some t) = copying_stays s _

module _ (c : ℕ) where
  pub finish_owed : Owed (Finish c)
  finish_owed = record {
    fact = λ s law h. finish_fact s c (s.copying.task c) refl h;
    test = λ s h. rw h.1 (written_all (s.copying.written c) (job_words s.word h.0.job) h.2);
    keeps = λ s law fits h. rw h.1 (keeps_finished s law c h.0 h.1 h.2);
    does = λ s law fits h. finish_stays s c (s.copying.task c);
    within = λ s. touch_finish s c (s.copying.task c);
    part = λ s h. inr (inr (inr (inr refl)));
    word = λ s h. finish_word s c (s.copying.task c);
    reports = λ s law h. rw h.1 (ap job_of (put_same s.copying.word h.0.number _ h.0.number refl) ∙ reads s law c h.0 h.1 h.2, put_same s.copying.task c None c refl);
    silent = λ s t h. h;
    answers = λ s x. cc;
    causes = replies (λ r. Caused (Finish c) (change_of (Finish c) r)) tt tt (λ n. tt) (λ x. tt) (λ place. tt);
  }
