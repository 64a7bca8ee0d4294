-- Where jobs' spans stand, beside what pointers name.
use Rattle.std.proofs.Common.{◌≡◌, ◌≢◌, ℕ, ◌/◌, ◌<◌, ◌∙◌, true, false, arith, refl, sym, ap, subst, Option, Some, None, Bool}
use Rattle.std.proofs.lemmas.Bool.{false≢true}
use Rattle.far_word.specs.declared.header.HeadWord.{HeadWord}
use Rattle.far_word.specs.declared.job.Job.{Job}
use Rattle.far_word.specs.declared.job.JobWord.{JobWord}
use Rattle.far_word.specs.declared.job.JobWord.TheVariants.{Empty, Offered, Taken, Finished}
use Rattle.far_word.specs.declared.mark.Marks.{Marks}
use Rattle.far_word.specs.declared.pointer.Place.{Place}
use Rattle.far_word.specs.declared.pointer.PtrWord.TheVariants.{Near}
use Rattle.far_word.specs.declared.sizes.TheConstants.{CELLS, JOBS, LOG_WORDS, MOST_COPIERS}
use Rattle.far_word.specs.Header.{head_of}
use Rattle.far_word.specs.Job.{IsJob, job_of}
use Rattle.far_word.specs.Pointer.{read_of}
use Rattle.far_word.proofs.JobLaws.{job_says}
use Rattle.far_word.proofs.PointerLaws.{read_says}
use Rattle.far_log.specs.Spans.{pointer_in}
use Rattle.far_events.specs.state.Jobs.{job_at, job_said, near_place, IsGood, JobLaw, TakenLaw}
use Rattle.far_events.specs.declared.event.Task.{Task}
use Rattle.far_events.specs.state.Law.{Law, len_in}
use Rattle.std.specs.Prelude.{IsSome, ◌*◌}
use Rattle.far_events.specs.state.State.{Copying, State, addr}
use Rattle.far_events.proofs.Bounds.{log_inside, span_len}

-- ---- the places of jobs
-- the job of a copier is one of the jobs
pub task_at : (word : ℕ → ℕ) (k : Copying) → TakenLaw word k.word k.task k.length k.read → (c : ℕ) (t : Task) → k.task c ≡ Some t → job_at k.word t.number ≡ Some t.job
task_at word k law c t e = rw (law.takes c t e) refl

pub unworded : job_of 0 ≡ Some Empty
unfolding job_of
unworded = refl

-- a word that says a job is one of the jobs
pub job_low : (word : ℕ → ℕ) (starts : ℕ → Bool) (jobs : ℕ → ℕ) (named : ℕ → Bool) → JobLaw word starts jobs named → (j : ℕ) (job : Job) → job_at jobs j ≡ Some job → j < JOBS
job_low word starts jobs named law j job e = law.job_range j (λ z. let odd : None ≡ Some job = sym (ap job_said unworded) ∙ sym (ap (λ w. job_said (job_of w)) z) ∙ e in cc)

-- ---- the bounds of jobs
said_bounds : (w : ℕ) (o : Option JobWord) (job : Job) → job_of w ≡ o → job_said o ≡ Some job → IsJob job
said_bounds w None job e is = absurd cc
said_bounds w (Some Empty) job e is = absurd cc
said_bounds w (Some (Offered k)) job e is = let same : k ≡ job = cc in subst IsJob same (job_says w (Offered k) e).0
said_bounds w (Some (Taken k c)) job e is = let same : k ≡ job = cc in subst IsJob same (job_says w (Taken k c) e).0.0
said_bounds w (Some (Finished k c)) job e is = let same : k ≡ job = cc in subst IsJob same (job_says w (Finished k c) e).0.0

pub job_bounds : (k : Copying) (j : ℕ) (job : Job) → job_at k.word j ≡ Some job → IsJob job
job_bounds k j job is = said_bounds (k.word j) (job_of (k.word j)) job refl is

-- places that begin at one word are one
pub same_place : (x y : Place) → x.at < LOG_WORDS → y.at < LOG_WORDS → addr x ≡ addr y → x ≡ y
same_place x y a b e =
    let log : x.log ≡ y.log = omega arith in
    let at : x.at ≡ y.at = omega arith in
    ap (λ l. record { log = l; at = x.at }) log ∙ ap (λ t. record { log = y.log; at = t }) at

-- what a pointer names at a job's place is the job's pointer
module _ (s : State) (law : Law s) (p len ds : ℕ) (place : Place) (m : Marks) (near : read_of (s.cell p) ≡ Some (Near len ds place m)) (j : ℕ) (job : Job) (at : job_at s.copying.word j ≡ Some job) where
  at_from : addr place ≡ addr job.from → (place ≡ job.from) × (p ≡ job.pointer)
  at_from e =
      let x = law.copies.jobs.job_spans j job at in
      let says = read_says (s.cell p) (Near len ds place m) (law.cells.cell_read p).0 near in
      let inside = (job_bounds s.copying j job at).from in
      let own : p ≡ pointer_in (head_of (s.word (addr job.from))) = ap pointer_in (sym (span_len s law p len ds place m near)) ∙ ap (λ a. pointer_in (head_of (s.word a))) e in
      (same_place place job.from (omega (arith, says.0)) (omega (arith, inside)) e, own ∙ x.pointer)

  at_to : addr place ≡ addr job.to → (place ≡ job.to) × (p ≡ job.pointer)
  at_to e =
      let x = law.copies.jobs.job_spans j job at in
      let says = read_says (s.cell p) (Near len ds place m) (law.cells.cell_read p).0 near in
      let inside = (job_bounds s.copying j job at).to in
      let own : p ≡ pointer_in (head_of (s.word (addr job.from))) =
      ap pointer_in (sym (span_len s law p len ds place m near)) ∙ ap (λ a. pointer_in (head_of (s.word a))) e ∙ ap (λ w. pointer_in (head_of w)) x.alike in
      (same_place place job.to (omega (arith, says.0)) (omega (arith, inside)) e, own ∙ x.pointer)

  -- so it isn't the target, before the pointer was named to it
  pub not_target : s.copying.named j ≡ false → addr place ≢ addr job.to
  not_target unnamed e =
      let x = at_to e in
      law.copies.aims.unnamed j job at unnamed (ap (λ q. near_place (read_of (s.cell q))) (sym x.1) ∙ ap near_place near ∙ ap (λ y. Some y) x.0)

  -- nor the source of a good job, where a view rests on it
  pub not_source : s.held p ≡ Some place → IsGood s.round_epoch s.round s.copying.since j job → addr place ≢ addr job.from
  not_source held good e =
      let x = at_from e in
      let seen : s.clear (p / CELLS) ≡ true = ap (λ q. s.clear (q / CELLS)) x.1 ∙ law.copies.good.seen j job at good in
      false≢true (sym (law.clears.clear_unviewed p place held seen) ∙ ap (λ (y : Place). s.round y.log) x.0 ∙ good.1)

-- a copier's source lies in the heap, and its header reads
pub source_lies : (s : State) → Law s → (c : ℕ) (t : Task) → s.copying.task c ≡ Some t → (addr t.job.from < LOG_WORDS * s.logs) × IsSome (head_of (s.word (addr t.job.from))) × (c < MOST_COPIERS)
source_lies s law c t has =
    let taken = law.copies.taken.takes c t has in
    let at : job_at s.copying.word t.number ≡ Some t.job = ap job_said taken in
    let begun = (law.copies.jobs.job_spans t.number t.job at).from in
    let span = law.spans.span (addr t.job.from) begun in
    let inside : addr t.job.from / LOG_WORDS < s.logs = log_inside s law (addr t.job.from / LOG_WORDS) (omega (arith, span.fits)) in
    (omega (arith, inside), has_len (head_of (s.word (addr t.job.from))) span.some, (job_says (s.copying.word t.number) (Taken t.job c) taken).0.1) where
      has_len : (o : Option HeadWord) → 0 < len_in o → IsSome o
      has_len None some = absurd (omega arith)
      has_len (Some head) some = refl

-- a copier's job lies on the layout, and is one of the jobs
pub task_lies : (s : State) → Law s → (c : ℕ) (t : Task) → s.copying.task c ≡ Some t → (t.number < JOBS) × (IsJob t.job × (c < MOST_COPIERS))
task_lies s law c t has =
    let taken = law.copies.taken.takes c t has in
    (job_low s.word s.starts s.copying.word s.copying.named law.copies.jobs t.number t.job (ap job_said taken), (job_says (s.copying.word t.number) (Taken t.job c) taken).0)
