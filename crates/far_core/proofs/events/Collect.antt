-- What the event Collect owes.
use Rattle.std.proofs.Common.{◌≡◌, ◌≢◌, ℕ, ◌<◌, ◌^◌, ◌∙◌, Bool, true, false, cond, nat_eq, nat_lt, arith, inl, inr, ap, refl, sym, Some, None}
use Rattle.std.specs.Prelude.{IsSome}
use Rattle.std.proofs.lemmas.Bool.{cond_both, eqb-false, eqb-true, false≢true}
use Rattle.std.proofs.lemmas.Bool.Decides.{nat_tests}
use Rattle.far_word.specs.declared.job.Job.{Job}
use Rattle.far_word.specs.declared.job.JobWord.TheVariants.{Empty, Taken, Finished}
use Rattle.far_word.specs.declared.sizes.TheConstants.{JOBS}
use Rattle.far_word.specs.Job.{job_of}
use Rattle.far_events.specs.declared.event.Event.TheVariants.{Collect}
use Rattle.far_events.specs.declared.event.Reply.{Reply}
use Rattle.far_events.specs.declared.event.Reply.TheVariants.{Done, Refused, Word}
use Rattle.far_events.specs.events.Collect.{collected, is_loose}
use Rattle.far_events.specs.events.Reports.{Reports}
use Rattle.far_events.specs.events.Step.{change_of, touches}
use Rattle.far_events.specs.events.Touch.{JobAt, NoPart, Touches}
use Rattle.far_core.specs.laws.Worlds.{Caused}
use Rattle.far_events.specs.state.Jobs.{is_finished, job_at, job_said}
use Rattle.far_events.specs.state.Law.{Law}
use Rattle.far_events.specs.state.State.{State, put}
use Rattle.far_core.specs.world.Happens.{Happens}
use Rattle.far_core.specs.world.WorldOf.{world_of}
use Rattle.far_events.proofs.Guards.{parts}
use Rattle.far_core.proofs.KeepJobs.{copying_stays, law_with_copying}
use Rattle.far_events.proofs.JobPlaces.{unworded}
use Rattle.far_core.proofs.Owed.{Owed, replies}
use Rattle.far_events.proofs.Put.{put_both, put_cases_of, put_other, put_same}
use Rattle.far_core.proofs.Touching.{one_job, untouched}

module _ (s : State) (law : Law s) (j : ℕ) (loose : is_loose (job_of (s.copying.word j)) ≡ true) where
  abbrev jobs : ℕ → ℕ
  jobs = put s.copying.word j 0

  -- what is a job still, was one, and is another
  kept : (i : ℕ) (job : Job) → job_at jobs i ≡ Some job → (i ≢ j) × (job_at s.copying.word i ≡ Some job)
  kept i job is = elim (put_cases_of s.copying.word j 0 i (λ x. job_said (job_of x) ≡ Some job) is) [
    | inl (e, is) ↦ (let odd : None ≡ Some job = sym (ap job_said unworded) ∙ is in absurd cc)
    | inr both ↦ both
  ]

  pub keeps_collected : Law (collected s j)
  keeps_collected =
      let k = s.copying in
      let copies = law.copies in
      law_with_copying s _ law (record {
        jobs = record {
          job_read = λ i. put_both (λ x. (x < 2 ^ 64) × IsSome (job_of x)) k.word j 0 i (λ _. (omega arith, rw unworded refl)) (λ _. copies.jobs.job_read i);
          job_range = λ i. put_both (λ x. x ≢ 0 → i < JOBS) k.word j 0 i (λ _ ne. absurd (ne refl)) (λ _. copies.jobs.job_range i);
          job_spans = λ i job e. copies.jobs.job_spans i job (kept i job e).1;
          targets_differ = λ i n a b e f. copies.jobs.targets_differ i n a b (kept i a e).1 (kept n b f).1;
          target_no_source = λ i n a b e f. copies.jobs.target_no_source i n a b (kept i a e).1 (kept n b f).1;
          unfinished_unnamed = λ i job e undone. let x = kept i job e in copies.jobs.unfinished_unnamed i job x.1 (ap (λ w. is_finished (job_of w)) (sym (put_other k.word j 0 i x.0)) ∙ undone);
        };
        taken = record {
          taken_by = λ i d job is. elim (put_cases_of k.word j 0 i (λ x. job_of x ≡ Some (Taken job d)) is) [
            | inl (e, is) ↦ (let odd : Some Empty ≡ Some (Taken job d) = sym unworded ∙ is in absurd cc)
            | inr (ne, is) ↦ copies.taken.taken_by i d job is
          ];
          takes = λ d t is. let old = copies.taken.takes d t is in
              ap job_of (put_other k.word j 0 t.number (λ e. false≢true (sym (ap is_loose old) ∙ ap (λ i. is_loose (job_of (k.word i))) e ∙ loose))) ∙ old;
          long = copies.taken.long;
          fits = copies.taken.fits;
        };
        aims = record { unnamed = λ i job e. copies.aims.unnamed i job (kept i job e).1; left = λ i job e. copies.aims.left i job (kept i job e).1 };
        good = record { begun = copies.good.begun; seen = λ i job e. copies.good.seen i job (kept i job e).1; outside = λ i job e. copies.good.outside i job (kept i job e).1 };
        same = record {
          read = copies.same.read;
          written = copies.same.written;
          finished = λ i d job is. elim (put_cases_of k.word j 0 i (λ x. job_of x ≡ Some (Finished job d)) is) [
            | inl (e, is) ↦ (let odd : Some Empty ≡ Some (Finished job d) = sym unworded ∙ is in absurd cc)
            | inr (ne, is) ↦ copies.same.finished i d job is
          ];
        };
      })

module _ (j old : ℕ) where
  reports_collect : (s : State) → (b : Bool) → nat_eq (s.copying.word j) old ≡ b → Reports s (Collect j old) (cond b Done (Word (s.copying.word j))) (cond b (collected s j) s)
  reports_collect s true is = (eqb-true (s.copying.word j) old is, put_same s.copying.word j 0 j refl)
  reports_collect s false is = (refl, eqb-false (s.copying.word j) old is, refl)

  does_collect : (s : State) (b : Bool) → Happens (world_of s) (Collect j old) (cond b Done (Word (s.copying.word j))) (world_of (cond b (collected s j) s))
  does_collect s true = copying_stays s _
  does_collect s false = refl

  touch_collect : (s : State) → Touches s (record { word = Some (JobAt j); part = NoPart }) (collected s j)
  touch_collect s = record {
    words = one_job s.epoch s.scope s.cell s.word s.copying.word j 0;
    remembered = λ m a b. refl;
    used = λ p a. refl;
    held = λ p a b. refl;
    soiled = λ p a b. refl;
    book = λ ne. (refl, refl, refl, refl, refl, refl, refl, refl, refl, refl);
    copiers = λ d ne. record { task = refl; length = refl; read = refl; written = refl };
    rest = (refl, refl, refl, refl);
  }

  pub collect_owed : Owed (Collect j old)
  collect_owed = record {
    fact = λ s law h. let x = parts (nat_lt j JOBS) (is_loose (job_of old)) h in (grind (arith, nat_tests), x.1);
    test = λ s h. let low : j < JOBS = h.0 in let a : nat_lt j JOBS ≡ true = grind (arith, nat_tests) in rw (a, h.1) refl;
    keeps = λ s law fits h. cond_both (nat_eq (s.copying.word j) old) (collected s j) s Law
        (λ e. keeps_collected s law j (ap (λ w. is_loose (job_of w)) (eqb-true (s.copying.word j) old e) ∙ h.1)) (λ _. law);
    does = λ s law fits h. does_collect s (nat_eq (s.copying.word j) old);
    within = λ s. cond_both (nat_eq (s.copying.word j) old) (collected s j) s (Touches s (touches s (Collect j old))) (λ _. touch_collect s) (λ _. untouched s _);
    part = λ s h. tt;
    word = λ s h. inr (inr (inr (old, refl)));
    reports = λ s law h. reports_collect s (nat_eq (s.copying.word j) old) refl;
    silent = λ s t h. h;
    answers = λ s x. cond_both (nat_eq (s.copying.word j) old) Done (Word (s.copying.word j)) (λ (r : Reply). r ≢ Refused) (λ _ y. cc) (λ _ y. cc) x;
    causes = replies (λ r. Caused (Collect j old) (change_of (Collect j old) r)) tt tt (λ n. tt) (λ x. tt) (λ place. tt);
  }
