-- Each kind of step of a copier's seat is its event of the core.
use Rattle.std.proofs.Common.{◌≡◌, ◌+◌, ◌*◌, ◌/◌, ◌<◌, ◌≤◌, ℕ, true, cond, List, set, sym, refl, ap, ◌∙◌, subst, arith, Some, None}
use Rattle.std.specs.Prelude.{slice_index, ◌==◌, ◌^◌}
use mathlib.Core.Option.{some, none}
use prog.Atomic.{either}
use lib.ListN.{get_elem?}
use Rattle.atomic_table.specs.Table.{Me, step, Allows}
use Rattle.far_word.specs.declared.job.Job.{Job}
use Rattle.far_word.specs.declared.job.JobWord.TheVariants.{Finished, Offered, Taken}
use Rattle.far_word.specs.declared.sizes.TheConstants.{JOBS, LOG_WORDS, MOST_LOGS}
use Rattle.far_word.specs.Job.{job_in as job_said, job_of, job_word}
use Rattle.far_word.specs.Sizes.{words_for}
use Rattle.far_events.specs.declared.event.Event.TheVariants.{PeekJob, Claim, ReadLength, Read, Write, Finish}
use Rattle.far_events.specs.declared.event.Reply.TheVariants.{Done, Word}
use Rattle.far_events.specs.declared.event.Task.{Task}
use Rattle.far_events.specs.events.Claim.{after_claim, offered_in}
use Rattle.far_events.specs.events.Legal.{Legal}
use Rattle.far_events.specs.events.Tasks.{AllWritten}
use Rattle.far_events.specs.state.Jobs.{job_words}
use Rattle.far_events.specs.state.Law.{head_len}
use Rattle.far_events.specs.state.State.{State, addr, put}
use Rattle.far_events.proofs.Bounds.{log_inside}
use Rattle.far_events.proofs.JobPlaces.{job_bounds, source_lies, task_lies, task_at}
use Rattle.far_table.specs.View.{BookView, CopierView, OtherViews, View, Copier, with_copier}
use Rattle.far_table.specs.CopierPlays.{JobClaimed, JobFinished, JobPeeked, LengthRead, SourceRead, TargetWritten}
use Rattle.far_table.specs.CopierViews.{claimed_view, finished_view, measured_view, peeked_view, word_read_view, word_written_view, words_read, words_written}
use Rattle.far_table.specs.Layout.{table_words, data_at, job_at, job_in, word_in}
use Rattle.far_table.specs.NameViews.{exchange_reply}
use Rattle.far_table.specs.Rule.{Facts, Running}
use Rattle.far_table.specs.StateOf.{state_of}
use Rattle.far_table.specs.Tells.{CopierTells, copier_of}
use Rattle.far_table.proofs.CopyFrames.{CopyStep, copied_is, copier_is, is_copier, known, known_same, known_set}
use Rattle.far_table.proofs.Exchanges.{by_case, if_lost, if_won, lost_says, won_says}
use Rattle.far_table.proofs.OwnSteps.{Leads, led_by}
use Rattle.far_table.proofs.Lift.{copier_makes, copier_reads}
use Rattle.far_table.proofs.Words.{data_word_set, job_here, job_word_set, no_word}

module _ (ws : List ℕ) (b : BookView) (os : OtherViews) (f : Facts ws b os) (v : CopierView) (at : get_elem? os.copiers v.number ≡ some v) where
  abbrev s : State
  s = state_of ws b os

  abbrev c : ℕ
  c = v.number

  -- what the copier knows, as the state has it
  pub task_is : s.copying.task c ≡ v.task
  task_is = ap (λ (y : CopierView). y.task) (copier_is os.copiers c v v at)

  pub read_is : s.copying.read c ≡ words_read v
  read_is = ap words_read (copier_is os.copiers c v v at)

  pub written_is : s.copying.written c ≡ words_written v
  written_is = ap words_written (copier_is os.copiers c v v at)

  -- what copiers know, once this one's view is w
  sets : {X : Type 0} (w : CopierView) (g : CopierView → X) → known os.copiers c v w at g (set os.copiers c w) ≡ put (known os.copiers c v w at g os.copiers) c (g w)
  sets w g = known_set os.copiers c v w at g

  stays : {X : Type 0} (w : CopierView) (g : CopierView → X) → g w ≡ g v → known os.copiers c v w at g (set os.copiers c w) ≡ known os.copiers c v w at g os.copiers
  stays w g = known_same os.copiers c v w at g

  module _ (j : ℕ) (low : j < JOBS) where
    abbrev n : ℕ
    n = job_in ws j

    -- ---- looks
    -- what it notes changes nothing else
    notes : Leads s ws b (with_copier os c (peeked_view j n v))
    notes = let w : CopierView = peeked_view j n v in
        copied_is ws ws b os c w (no_word b.logs ws f.wide) (stays w (λ y. y.task) refl) (stays w (λ y. y.length) refl) (stays w words_read refl) (stays w words_written refl)

    pub peek_step : CopyStep ws b os v (PeekJob c j) (Word n) ws (peeked_view j n v)
    peek_step = record { legal = (is_copier ws b os f v at, low); says = refl; becomes = notes; number = refl; logs = refl }

    -- ---- claims
    module _ (old : ℕ) (job : Job) (idle : v.task ≡ None) (offers : job_of old ≡ Some (Offered job)) where
      pub claim_step : CopyStep ws b os v (Claim c j old) (exchange_reply old n) (set ws (job_at j) (either (n == old) (job_word (Taken job c)) n)) (cond (n == old) (claimed_view j job v) (peeked_view j n v))
      claim_step =
          let w : CopierView = claimed_view j job v in
          let legal : Legal s (Claim c j old) = (is_copier ws b os f v at, low, task_is ∙ idle, (job, offers), refl) in
          by_case (CopyStep ws b os v (Claim c j old)) ws (job_at j) n old (job_word (Taken job c)) w (peeked_view j n v) (job_here ws j low)
          (λ won. record {
            legal = legal;
            says = won_says n old won;
            becomes = led_by (if_won n old _ _ won ∙ ap (λ x. after_claim s c j (offered_in x)) offers)
                (copied_is ws _ b os c w (job_word_set b.logs ws f.wide j (job_word (Taken job c)) low) (sets w (λ y. y.task)) (sets w (λ y. y.length)) (sets w words_read) (sets w words_written));
            number = refl;
            logs = refl;
          })
          (λ lost. record { legal = legal; says = lost_says n old lost; becomes = led_by (if_lost n old _ _ lost) notes; number = refl; logs = refl })

  -- ---- of the job that it has
  module _ (t : Task) (task : v.task ≡ Some t) where
    pub has : s.copying.task c ≡ Some t
    has = task_is ∙ task

    -- both places of the job lie within the logs, and within those of the heap
    pub task_fits : (addr t.job.from + 1 + job_words s.word t.job ≤ MOST_LOGS * LOG_WORDS) × (addr t.job.to + 1 + job_words s.word t.job ≤ MOST_LOGS * LOG_WORDS)
        × (addr t.job.from + 1 + job_words s.word t.job ≤ s.logs * LOG_WORDS) × (addr t.job.to + 1 + job_words s.word t.job ≤ s.logs * LOG_WORDS)
    task_fits =
        let job = task_at s.word s.copying f.law.copies.taken c t has in
        let spans = f.law.copies.jobs.job_spans t.number t.job job in
        let bounds = job_bounds s.copying t.number t.job job in
        let from = (f.law.spans.span (addr t.job.from) spans.from).fits in
        let to = (f.law.spans.span (addr t.job.to) spans.to).fits in
        let long : words_for (head_len (s.word (addr t.job.to))) ≡ job_words s.word t.job = ap (λ y. words_for (head_len y)) spans.alike in
        let end = f.law.logs.tail_end (addr t.job.from / LOG_WORDS) in
        let last = f.law.logs.tail_end (addr t.job.to / LOG_WORDS) in
        let source = log_inside s f.law (addr t.job.from / LOG_WORDS) (omega (arith, from)) in
        let target = log_inside s f.law (addr t.job.to / LOG_WORDS) (omega (arith, to)) in (
          omega (arith, from, bounds.from.0, bounds.from.1, end),
          omega (arith, to, long, bounds.to.0, bounds.to.1, last),
          omega (arith, from, end, source),
          omega (arith, to, long, last, target),
        )

    pub measure_step : CopyStep ws b os v (ReadLength c) (Word (word_in ws (addr t.job.from))) ws (measured_view (word_in ws (addr t.job.from)) v)
    measure_step = let w : CopierView = measured_view (word_in ws (addr t.job.from)) v in record {
      legal = (t, has);
      says = rw has refl;
      becomes = rw has (copied_is ws ws b os c w (no_word b.logs ws f.wide) (stays w (λ y. y.task) refl) (sets w (λ y. y.length))
          (stays w words_read refl) (stays w words_written refl));
      number = refl;
      logs = refl;
    }

    -- as many words as the length says, once that is read
    words_are : (n : ℕ) → v.length ≡ Some n → words_for n ≡ job_words s.word t.job
    words_are n long = ap words_for (f.law.copies.taken.long c n t has (ap (λ (y : CopierView). y.length) (copier_is os.copiers c v v at) ∙ long))

    pub read_step : (i : ℕ) → i < job_words s.word t.job → CopyStep ws b os v (Read c i) (Word (word_in ws (addr t.job.from + 1 + i))) ws (word_read_view i (word_in ws (addr t.job.from + 1 + i)) v)
    read_step i inside = let w : CopierView = word_read_view i (word_in ws (addr t.job.from + 1 + i)) v in record {
      legal = (t, has, inside);
      says = rw has refl;
      becomes = rw has (copied_is ws ws b os c w (no_word b.logs ws f.wide) (stays w (λ y. y.task) refl) (stays w (λ y. y.length) refl)
          (sets w words_read ∙ ap (λ f. put s.copying.read c (put f i (Some (word_in ws (addr t.job.from + 1 + i))))) (sym read_is)) (stays w words_written refl));
      number = refl;
      logs = refl;
    }

    -- a word that was read
    module _ (i x : ℕ) (got : words_read v i ≡ Some x) where
      pub knows : s.copying.read c i ≡ Some x
      knows = ap (λ f. f i) read_is ∙ got

      -- the target lies within the table
      within : data_at (addr t.job.to + 1 + i) < table_words b.logs
      within = let low = (f.law.copies.taken.fits c i x t has knows).0 in let end = task_fits.3 in omega arith

      pub write_step : CopyStep ws b os v (Write c i) Done (set ws (data_at (addr t.job.to + 1 + i)) x) (word_written_view i v)
      write_step = let w : CopierView = word_written_view i v in record {
        legal = (t, x, has, knows);
        says = refl;
        becomes = rw (has, knows) (copied_is ws (set ws (data_at (addr t.job.to + 1 + i)) x) b os c w (data_word_set b.logs ws f.wide (addr t.job.to + 1 + i) x within)
            (stays w (λ y. y.task) refl) (stays w (λ y. y.length) refl) (stays w words_read refl)
            (sets w words_written ∙ ap (λ f. put s.copying.written c (put f i true)) (sym written_is)));
        number = refl;
        logs = refl;
      }

    -- all words were written
    pub finish_step : AllWritten (words_written v) (job_words s.word t.job) → CopyStep ws b os v (Finish c) Done (set ws (job_at t.number) (job_word (Finished t.job c))) (finished_view v)
    finish_step all = let w : CopierView = finished_view v in record {
      legal = (t, has, λ i lt. ap (λ f. f i) written_is ∙ all i lt);
      says = refl;
      becomes = rw has (copied_is ws (set ws (job_at t.number) (job_word (Finished t.job c))) b os c w (job_word_set b.logs ws f.wide t.number (job_word (Finished t.job c)) (task_lies s f.law c t has).0)
          (sets w (λ y. y.task)) (stays w (λ y. y.length) refl) (stays w words_read refl)
          (stays w words_written refl));
      number = refl;
      logs = refl;
    }

-- ---- what a step on the table asks
module _ {S : Type 0} (slots id : ℕ) (me : Me S View) (is : me.0 ≡ Copier (copier_of me.0)) where
  abbrev mine : CopierView
  mine = copier_of me.0

  pub peeks : (j : ℕ) → j < JOBS → Allows Running slots id me (job_at j) (λ n. n) (JobPeeked (step slots (job_at j) 0 0 none) me)
  peeks j low = copier_reads slots id (job_at j) me is (PeekJob mine.number j) refl tt Word (λ n. peeked_view j n mine) (JobPeeked (step slots (job_at j) 0 0 none) me)
      (λ ws b os f at. subst (λ n. CopyStep ws b os mine (PeekJob mine.number j) (Word n) ws (peeked_view j n mine)) (job_here ws j low) (peek_step ws b os f mine at j low))
      (λ ws b os f at t q e. let same : j ≡ q = omega arith in let n : ℕ = slice_index ws (job_at j) in
      subst (λ z. CopierTells me.0 (Copier (peeked_view j n mine)) (PeekJob mine.number z) (Word n) (peeked_view z n mine)) same t)

  pub claims : (j old x : ℕ) → j < JOBS → old < 2 ^ 64 → mine.task ≡ None → job_of old ≡ Some (Offered (job_said old)) → x ≡ job_word (Taken (job_said old) mine.number) →
      Allows Running slots id me (job_at j) (λ n. either (n == old) x n) (JobClaimed (step slots (job_at j) old x none) me)
  claims j old x low fits free offers word = let w : ℕ → CopierView = λ z. claimed_view z (job_said old) mine in
      copier_makes slots id (job_at j) me is (Claim mine.number j old) refl fits (exchange_reply old) (λ n. cond (n == old) (w j) (peeked_view j n mine)) (JobClaimed (step slots (job_at j) old x none) me) (λ n. either (n == old) x n)
      (λ ws b os f at. subst (λ (z : ℕ × ℕ). CopyStep ws b os mine (Claim mine.number j old) (exchange_reply old z.0) (set ws (job_at j) (either (z.0 == old) z.1 z.0)) (cond (z.0 == old) (w j) (peeked_view j z.0 mine)))
      (λ i. (job_here ws j low i, sym word i)) (claim_step ws b os f mine at j low old (job_said old) free offers))
      (λ ws b os f at t q e. let n : ℕ = slice_index ws (job_at j) in let same : j ≡ q = omega arith in
      subst (λ z. CopierTells me.0 (Copier (cond (n == old) (w j) (peeked_view j n mine))) (Claim mine.number z old) (exchange_reply old n) (cond (n == old) (w z) (peeked_view z n mine))) same t)

  module _ (t : Task) (task : mine.task ≡ Some t) where
    -- a task is one
    one_task : (u : Task) → mine.task ≡ Some u → t ≡ u
    one_task u other = let both : Some t ≡ Some u = sym task ∙ other in cc

    pub measures : (a : ℕ) → a ≡ data_at (addr t.job.from) → Allows Running slots id me a (λ n. n) (LengthRead (step slots a 0 0 none) me)
    measures a here = subst (λ z. Allows Running slots id me z (λ n. n) (LengthRead (step slots z 0 0 none) me)) (sym here) (copier_reads slots id (data_at (addr t.job.from)) me is (ReadLength mine.number) refl tt Word (λ n. measured_view n mine) (LengthRead (step slots (data_at (addr t.job.from)) 0 0 none) me)
        (λ ws b os f at. measure_step ws b os f mine at t task)
        (λ ws b os f at tells. ((source_lies (state_of ws b os) f.law mine.number t (has ws b os f mine at t task)).1, tells)))

    pub reads_source : (n i a : ℕ) → mine.length ≡ Some n → i < words_for n → a ≡ data_at (addr t.job.from + 1 + i) → Allows Running slots id me a (λ n. n) (SourceRead (step slots a 0 0 none) me)
    reads_source n i a long low here = subst (λ z. Allows Running slots id me z (λ n. n) (SourceRead (step slots z 0 0 none) me)) (sym here) (copier_reads slots id (data_at (addr t.job.from + 1 + i)) me is (Read mine.number i) refl tt Word (λ x. word_read_view i x mine)
        (SourceRead (step slots (data_at (addr t.job.from + 1 + i)) 0 0 none) me)
        (λ ws b os f at. read_step ws b os f mine at t task i (subst (λ k. i < k) (words_are ws b os f mine at t task n long) low))
        (λ ws b os f at tells k u other e. let x : ℕ = slice_index ws (data_at (addr t.job.from + 1 + i)) in
        let from : addr t.job.from ≡ addr u.job.from = ap (λ (z : Task). addr z.job.from) (one_task u other) in let same : i ≡ k = omega (arith, e, from) in
        subst (λ z. CopierTells me.0 (Copier (word_read_view i x mine)) (Read mine.number z) (Word x) (word_read_view z x mine)) same tells))

    pub writes_target : (i x a : ℕ) → words_read mine i ≡ Some x → a ≡ data_at (addr t.job.to + 1 + i) → Allows Running slots id me a (λ _. x) (λ _. TargetWritten (step slots a x 0 none) me x)
    writes_target i x a got here = subst (λ z. Allows Running slots id me z (λ _. x) (λ _. TargetWritten (step slots z x 0 none) me x)) (sym here) (copier_makes slots id (data_at (addr t.job.to + 1 + i)) me is (Write mine.number i) refl tt (λ _. Done) (λ _. word_written_view i mine)
        (λ _. TargetWritten (step slots (data_at (addr t.job.to + 1 + i)) x 0 none) me x) (λ _. x)
        (λ ws b os f at. write_step ws b os f mine at t task i x got)
        (λ ws b os f at tells k u other e.
        let to : addr t.job.to ≡ addr u.job.to = ap (λ (z : Task). addr z.job.to) (one_task u other) in let same : i ≡ k = omega (arith, e, to) in
        subst (λ z. CopierTells me.0 (Copier (word_written_view i mine)) (Write mine.number z) Done (word_written_view z mine)) same tells))

    pub finishes : (n x a : ℕ) → mine.length ≡ Some n → ((i : ℕ) → i < words_for n → words_written mine i ≡ true) → x ≡ job_word (Finished t.job mine.number) → a ≡ job_at t.number →
        Allows Running slots id me a (λ _. x) (λ _. JobFinished (step slots a x 0 none) me x)
    finishes n x a long all word here = subst (λ z. Allows Running slots id me z (λ _. x) (λ _. JobFinished (step slots z x 0 none) me x)) (sym here)
        (copier_makes slots id (job_at t.number) me is (Finish mine.number) refl tt (λ _. Done) (λ _. finished_view mine) (λ _. JobFinished (step slots (job_at t.number) x 0 none) me x) (λ _. x)
        (λ ws b os f at. subst (λ z. CopyStep ws b os mine (Finish mine.number) Done (set ws (job_at t.number) z) (finished_view mine)) (sym word) (finish_step ws b os f mine at t task (λ i lt. all i (subst (λ k. i < k) (sym (words_are ws b os f mine at t task n long)) lt))))
        (λ ws b os f at tells. tells))
