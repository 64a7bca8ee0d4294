-- A job's word is found, or the job is emptied: a book stays in order.
use Rattle.std.proofs.Common.{◌≡◌, ℕ, ◌+◌, ◌<◌, ◌^◌, ◌∙◌, Bool, true, false, arith, ap, refl, sym, subst, Option, Some, None, List}
use Rattle.std.specs.Prelude.{IsSome}
use Rattle.std.proofs.lemmas.Bool.{eq-eqb, false≢true, true≢false, false_from_ne_true}
use mathlib.Core.Path.{fun_ext}
use Rattle.far_word.specs.declared.job.JobWord.{JobWord}
use Rattle.far_word.specs.declared.job.JobWord.TheVariants.{Empty, Offered, Taken, Finished}
use Rattle.far_word.specs.declared.sizes.TheConstants.{JOBS}
use Rattle.far_word.specs.Job.{job_of}
use Rattle.far_word.specs.Sizes.{size_of, words_for}
use Rattle.far_events.specs.declared.event.Event.TheVariants as events
use Rattle.far_events.specs.events.Collect.{collected, is_loose}
use Rattle.far_events.specs.events.Legal.{Legal}
use Rattle.far_events.specs.events.Step.{after}
use Rattle.far_core.specs.laws.Observed.{live_bytes}
use Rattle.far_events.specs.state.Jobs.{AimLaw, CopyLaw, GoodLaw, JobLaw, is_finished, job_at, job_said}
use Rattle.far_events.specs.state.Law.{Law, head_len}
use Rattle.far_events.specs.state.Spans.{spans_of}
use Rattle.far_events.specs.state.State.{Copying, State, addr, put}
use Rattle.far_core.proofs.KeepJobs.{law_with_copying, reworded_aims, reworded_good, reworded_jobs}
use Rattle.far_events.proofs.JobPlaces.{unworded}
use Rattle.far_core.proofs.Owing.{keeps}
use Rattle.far_events.proofs.Put.{put_both, put_other, put_same}
use Rattle.far_hand.specs.FindsJob.{FindsJob, job_body, job_found}
use Rattle.far_hand.proofs.JobsFound.{same_job}
use Rattle.far_book.specs.declared.jobs.Jobs.{Jobs}
use Rattle.far_book.specs.declared.ledger.Ledger.{Ledger}
use Rattle.far_book.specs.book.FarSide.{InOrder}
use Rattle.far_book.specs.book.Jobs.{WritesJob}
use Rattle.far_book.specs.book.Ledger.{Notes}
use Rattle.far_book.specs.book.Own.{own_part, unread, untaken, untaken_of}
use Rattle.far_book.proofs.region.JobNotes.{notes_same, notes_wrote}
use Rattle.far_book.proofs.region.Owns.{own_bare}
use Rattle.far_book.proofs.region.Untaken.{empty_kept, loosed, none_taken, some_loosed, untaken_finished, untaken_fits, untaken_said, untaken_says}

-- ---- a word of a job is another
pub untaken_put : (word : ℕ → ℕ) (j w : ℕ) → (λ i. untaken (put word j w i)) ≡ put (λ i. untaken (word i)) j (untaken w)
untaken_put word j w = fun_ext (λ i. put_both (λ x. untaken x ≡ put (λ n. untaken (word n)) j (untaken w) i) word j w i
    (λ e. sym (put_same (λ n. untaken (word n)) j (untaken w) i e)) (λ ne. sym (put_other (λ n. untaken (word n)) j (untaken w) i ne)))

known_loosed : (o : Option JobWord) → IsSome (loosed o) → IsSome o
known_loosed None h = h
known_loosed (Some w) h = refl

body_some : (a b : Option JobWord) → job_body b ≡ job_body a → IsSome a → IsSome b
body_some None b e h = absurd (false≢true h)
body_some (Some v) None e h = absurd cc
body_some (Some v) (Some w) e h = refl

loose_of : (w : ℕ) (o : Option JobWord) → is_loose o ≡ true → untaken_of w o ≡ w
loose_of w None h = refl
loose_of w (Some Empty) h = refl
loose_of w (Some (Offered job)) h = refl
loose_of w (Some (Taken job c)) h = absurd (false≢true h)
loose_of w (Some (Finished job c)) h = refl

-- a job that no copier has is shown as it is
pub loose_kept : (w : ℕ) → is_loose (job_of w) ≡ true → untaken w ≡ w
loose_kept w h = loose_of w (job_of w) h

-- ---- the book's own part has no data words
module _ (s : State) (law : Law (own_part s)) where
  abbrev o : State
  o = own_part s

  bare_data : (a i : ℕ) → s.starts a ≡ true → i < words_for (head_len (o.word a)) → o.word (a + 1 + i) ≡ 0
  bare_data a i start lt =
      let long : size_of (head_len (o.word a)) ≡ 1 + words_for (head_len (o.word a)) = refl in
      let at : a + (1 + i) ≡ a + 1 + i = omega arith in
      own_bare s (a + 1 + i) (sym (ap s.starts at) ∙ (law.spans.span a start).alone (1 + i) (omega arith) (omega arith))

  -- so whatever its jobs say, what they have copied is the same
  pub same_data : (a b i : ℕ) → s.starts a ≡ true → s.starts b ≡ true → o.word b ≡ o.word a → i < words_for (head_len (o.word a)) → o.word (b + 1 + i) ≡ o.word (a + 1 + i)
  same_data a b i from to alike lt =
      bare_data b i to (subst (λ w. i < words_for (head_len w)) (sym alike) lt) ∙ sym (bare_data a i from lt)

  -- ---- a job's word is found
  module _ (j w : ℕ) (low : j < JOBS) (fits : w < 2 ^ 64) (finds : FindsJob (s.copying.word j) w) where
    abbrev k : Copying
    k = (job_found s j w).copying

    abbrev jobs : ℕ → ℕ
    jobs = o.copying.word

    same : job_said (job_of (untaken w)) ≡ job_at jobs j
    same = untaken_said w ∙ same_job (s.copying.word j) w finds ∙ sym (untaken_said (s.copying.word j))

    some_known : IsSome (job_of (s.copying.word j))
    some_known = known_loosed (job_of (s.copying.word j)) (subst IsSome (untaken_says (s.copying.word j)) (law.copies.jobs.job_read j).1)

    some_found : IsSome (job_of (untaken w))
    some_found = subst IsSome (sym (untaken_says w)) (some_loosed (job_of w) (body_some (job_of (s.copying.word j)) (job_of w) finds.body some_known))

    -- what isn't found finished wasn't finished
    unfinished : is_finished (job_of (untaken w)) ≡ false → is_finished (job_of (jobs j)) ≡ false
    unfinished undone = untaken_finished (s.copying.word j) ∙ false_from_ne_true _ (λ done.
        true≢false (sym (ap (λ x. is_finished (job_of x)) (finds.ended done) ∙ done) ∙ (sym (untaken_finished w) ∙ undone)))

    put_is : (unread k).word ≡ put jobs j (untaken w)
    put_is = untaken_put s.copying.word j w

    copies_found : CopyLaw o.cell o.word o.starts o.round o.round_epoch o.clear (unread k)
    copies_found =
        let old = law.copies in
        let jobs_now = subst (λ x. JobLaw o.word o.starts x o.copying.named) (sym put_is) (reworded_jobs jobs j (untaken w) same o.word o.starts o.copying.named old.jobs (untaken_fits w fits) some_found low
        (λ job e undone. old.jobs.unfinished_unnamed j job e (unfinished undone))) in
        record {
          jobs = jobs_now;
          taken = none_taken k o.word;
          aims = subst (λ x. AimLaw o.cell x o.copying.named) (sym put_is) (reworded_aims jobs j (untaken w) same o.cell o.copying.named old.aims);
          good = subst (λ x. GoodLaw o.round_epoch o.round o.clear x o.copying.since) (sym put_is) (reworded_good jobs j (untaken w) same o.round_epoch o.round o.clear o.copying.since old.good);
          same = record {
            read = λ c i v t e g r. absurd cc;
            written = λ c i t e g r. absurd (false≢true r);
            finished = λ n c job e g none i lt. let spans = jobs_now.job_spans n job (rw e refl) in same_data (addr job.from) (addr job.to) i spans.from spans.to spans.alike lt;
          };
        }

    pub law_found : Law (own_part (job_found s j w))
    law_found = law_with_copying o (unread k) law copies_found

    live_found : (l : ℕ) → live_bytes (own_part (job_found s j w)) l ≡ live_bytes o l
    unfolding spans_of
    live_found l = refl

    jobs_found : (i : ℕ) → job_at (unread k).word i ≡ job_at jobs i
    jobs_found i = ap (λ (x : ℕ → ℕ). job_said (job_of (x i))) put_is ∙ put_both (λ x. job_said (job_of x) ≡ job_at jobs i) jobs j (untaken w) i (λ e. same ∙ ap (job_at jobs) (sym e)) (λ _. refl)

    notes_found_job : (ledger : Ledger) → Notes o ledger → Notes (own_part (job_found s j w)) ledger
    notes_found_job ledger notes = record {
      law = law_found;
      current = notes.current;
      free = notes.free;
      logs = notes.logs;
      tails = notes.tails;
      lives = λ l lt. notes.lives l lt ∙ sym (live_found l);
      sealed = notes.sealed;
      once = notes.once;
      cells = notes.cells;
      cell = notes.cell;
      jobs = notes_same s.round_epoch s.round o.copying ledger.jobs notes.jobs (unread k).word jobs_found;
    }

  -- ---- a job that no copier has is emptied
  module _ (j : ℕ) (low : j < JOBS) (loose : is_loose (job_of (s.copying.word j)) ≡ true) where
    abbrev kept : Copying
    kept = (collected s j).copying

    kept_is : (unread kept).word ≡ put o.copying.word j 0
    kept_is = untaken_put s.copying.word j 0 ∙ ap (put o.copying.word j) empty_kept

    shown : untaken (s.copying.word j) ≡ s.copying.word j
    shown = loose_kept (s.copying.word j) loose

    may_empty : Legal o (events.Collect j (o.copying.word j))
    may_empty = (low, ap (λ w. is_loose (job_of w)) shown ∙ loose)

    emptied_is : after o (events.Collect j (o.copying.word j)) ≡ own_part (collected s j)
    emptied_is = rw (eq-eqb (o.copying.word j) (o.copying.word j) refl) (λ i. record o { copying = record (unread kept) { word = sym kept_is i } })

    law_emptied : Law (own_part (collected s j))
    law_emptied = subst Law emptied_is (keeps o (events.Collect j (o.copying.word j)) law (law.copies.jobs.job_read j).0 may_empty)

    live_emptied : (l : ℕ) → live_bytes (own_part (collected s j)) l ≡ live_bytes o l
    unfolding spans_of
    live_emptied l = refl

    notes_emptied : (ledger : Ledger) (jobs : Jobs) → WritesJob ledger.jobs jobs j None → Notes o ledger → Notes (own_part (collected s j)) (record ledger { jobs = jobs })
    notes_emptied ledger jobs writes notes = record {
      law = law_emptied;
      current = notes.current;
      free = notes.free;
      logs = notes.logs;
      tails = notes.tails;
      lives = λ l lt. notes.lives l lt ∙ sym (live_emptied l);
      sealed = notes.sealed;
      once = notes.once;
      cells = notes.cells;
      cell = notes.cell;
      jobs = notes_wrote s.round_epoch s.round o.copying ledger.jobs notes.jobs (unread kept) jobs j None writes
          (ap (λ (x : ℕ → ℕ). job_said (job_of (x j))) kept_is ∙ ap (λ x. job_said (job_of x)) (put_same o.copying.word j 0 j refl) ∙ ap job_said unworded)
          (λ i ne. ap (λ (x : ℕ → ℕ). job_said (job_of (x i))) kept_is ∙ ap (λ x. job_said (job_of x)) (put_other o.copying.word j 0 i ne))
          (λ i ne. refl);
    }

-- ---- so the book stays in order
module _ (s : State) (ledger : Ledger) (held : ℕ → Option (List ℕ)) (is_honest : Bool) (h : InOrder s ledger held is_honest) (j : ℕ) (low : j < JOBS) where
  pub job_keeps : (w : ℕ) → w < 2 ^ 64 → FindsJob (s.copying.word j) w → InOrder (job_found s j w) ledger held is_honest
  job_keeps w fits finds = record { notes = notes_found_job s h.notes.law j w low fits finds ledger h.notes; far = record { long = h.far.long; same = h.far.same }; honest = h.honest }

  pub emptied_keeps : (jobs : Jobs) → is_loose (job_of (s.copying.word j)) ≡ true → WritesJob ledger.jobs jobs j None → InOrder (collected s j) (record ledger { jobs = jobs }) held is_honest
  emptied_keeps jobs loose writes = record { notes = notes_emptied s h.notes.law j low loose ledger jobs writes h.notes; far = record { long = h.far.long; same = h.far.same }; honest = h.honest }
