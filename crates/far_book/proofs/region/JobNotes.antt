-- What is written down of jobs is right again after they have changed.
use Rattle.std.proofs.Common.{◌≡◌, ◌≢◌, ℕ, ◌*◌, ◌<◌, ◌≤◌, ◌∙◌, Bool, true, false, arith, ap, refl, sym, subst, inl, inr, Option, Some, None}
use Rattle.std.specs.Prelude.{◌==◌, ◌&&◌, ◌||◌, ◌⊎◌, cond, is_some, not, IsSome, option_map, length}
use Rattle.std.proofs.lemmas.Bool.{cases_eq, eq-eqb, eqb-true, ne_eqb, false≢true, true≢false}
use Rattle.far_word.specs.declared.header.HeadWord.{HeadWord}
use Rattle.far_word.specs.declared.job.Job.{Job}
use Rattle.far_word.specs.declared.job.JobWord.{JobWord}
use Rattle.far_word.specs.declared.job.JobWord.TheVariants.{Empty, Offered, Taken, Finished}
use Rattle.far_word.specs.declared.pointer.PtrWord.{PtrWord}
use Rattle.far_word.specs.declared.pointer.PtrWord.TheVariants.{Free, Near, Far}
use Rattle.far_word.specs.declared.sizes.TheConstants.{CELLS, JOBS}
use Rattle.far_word.specs.Header.{head_of}
use Rattle.far_word.specs.Job.{job_of}
use Rattle.far_word.proofs.JobLaws.{job_says}
use Rattle.far_log.specs.Spans.{len_in, pointer_in}
use Rattle.far_events.specs.events.Clear.{round_left}
use Rattle.far_events.specs.events.Get.{IsUncopied}
use Rattle.far_events.specs.state.Jobs.{job_at, job_said}
use Rattle.far_events.specs.state.Opening.{no_copying}
use Rattle.far_events.specs.state.Law.{Law}
use Rattle.far_events.specs.state.State.{Copying, State, addr, put}
use Rattle.far_events.proofs.JobPlaces.{job_low, unworded}
use Rattle.far_core.proofs.events.Look.{or_right}
use Rattle.far_events.proofs.Put.{put_other}
use Rattle.far_book.specs.declared.jobs.Jobs.{Jobs}
use Rattle.far_book.specs.declared.jobs.Noted.{Noted}
use Rattle.far_book.specs.declared.ledger.Ledger.{Ledger}
use Rattle.far_book.specs.book.Jobs.{EndsJobs, NotesJobs, WritesJob, copies_at, ended, is_good, lies_in, noted_at, noted_of}
use Rattle.far_book.specs.book.Ledger.{Notes}
use Rattle.far_book.specs.book.NumberSet.{has}
use Rattle.far_book.specs.book.Own.{HasNoJob, own_part, unread}
use Rattle.far_book.proofs.region.Untaken.{same_jobs, untaken_zero}

-- ---- what is written down of one
noted_same : (o : Option Job) (f g : Job → Bool) → ((job : Job) → o ≡ Some job → f job ≡ g job) → noted_of o f ≡ noted_of o g
noted_same None f g same = refl
noted_same (Some job) f g same = ap (λ b. Some record { job = job; good = b }) (same job refl)

noted_ended : (o : Option Job) (f g ends : Job → Bool) → ((job : Job) → o ≡ Some job → (f job && not (ends job)) ≡ g job) → option_map (ended ends) (noted_of o f) ≡ noted_of o g
noted_ended None f g ends same = refl
noted_ended (Some job) f g ends same = ap (λ b. Some record { job = job; good = b }) (same job refl)

none_noted : (o : Option Job) (f : Job → Bool) → is_some o ≡ false → noted_of o f ≡ None
none_noted None f e = refl
none_noted (Some job) f e = absurd cc

some_noted : (o : Option Job) (f : Job → Bool) → is_some (noted_of o f) ≡ is_some o
some_noted None f = refl
some_noted (Some job) f = refl

-- ---- none is offered
pub no_jobs : (copiers : Bool) (epoch : ℕ) (round : ℕ → Bool) (jobs : Jobs) → length jobs.noted ≡ JOBS → ((j : ℕ) → noted_at jobs j ≡ None) → ((j : ℕ) → j < 64 → has jobs.waiting j ≡ false) →
    NotesJobs epoch round (unread record no_copying { has_copiers = copiers }) jobs
no_jobs copiers epoch round jobs sized noted waiting =
    let empty = (λ (j : ℕ). same_jobs no_copying j ∙ ap job_said unworded) in
    record {
      sized = sized;
      noted = λ j. noted j ∙ ap (λ o. noted_of o (is_good epoch round no_copying.since j)) (sym (empty j));
      waiting = λ j lt. waiting j lt ∙ ap is_some (sym (empty j));
    }

module _ (epoch : ℕ) (round : ℕ → Bool) (k : Copying) (jobs : Jobs) (notes : NotesJobs epoch round k jobs) where
  pub idle : (j : ℕ) → j < JOBS → has jobs.waiting j ≡ false → noted_at jobs j ≡ None
  idle j lt none = notes.noted j ∙ none_noted (job_at k.word j) (is_good epoch round k.since j) (sym (notes.waiting j (omega arith)) ∙ none)

  -- how far they have come isn't written down
  pub notes_same : (word : ℕ → ℕ) → ((j : ℕ) → job_at word j ≡ job_at k.word j) → NotesJobs epoch round (record k { word = word }) jobs
  notes_same word same = record {
    sized = notes.sized;
    noted = λ j. notes.noted j ∙ ap (λ o. noted_of o (is_good epoch round k.since j)) (sym (same j));
    waiting = λ j lt. notes.waiting j lt ∙ ap is_some (sym (same j));
  }

  -- one job is another, or empty now
  pub notes_wrote : (now : Copying) (new : Jobs) (j : ℕ) (o : Option Job) → WritesJob jobs new j (noted_of o (is_good epoch round now.since j)) → job_at now.word j ≡ o →
      ((i : ℕ) → i ≢ j → job_at now.word i ≡ job_at k.word i) → ((i : ℕ) → i ≢ j → now.since i ≡ k.since i) → NotesJobs epoch round now new
  notes_wrote now new j o w here there since = record {
    sized = w.sized ∙ notes.sized;
    noted = λ i. elim (cases_eq i j) [
      | inl e ↦ subst (λ n. noted_at new n ≡ noted_of (job_at now.word n) (is_good epoch round now.since n)) (sym e) (w.here ∙ ap (λ x. noted_of x (is_good epoch round now.since j)) (sym here))
      | inr ne ↦ w.there i ne ∙ notes.noted i ∙ ap (λ n. noted_of (job_at k.word i) (λ job. (n == epoch) && round job.from.log)) (sym (since i ne))
          ∙ ap (λ x. noted_of x (is_good epoch round now.since i)) (sym (there i ne))
    ];
    waiting = λ i lt. w.waiting i lt ∙ elim (cases_eq i j) [
      | inl e ↦ ap (λ b. cond b (is_some (noted_of o (is_good epoch round now.since j))) (has jobs.waiting i)) (eq-eqb i j e) ∙ some_noted o (is_good epoch round now.since j) ∙ ap is_some (sym here)
          ∙ ap (λ n. is_some (job_at now.word n)) (sym e)
      | inr ne ↦ ap (λ b. cond b (is_some (noted_of o (is_good epoch round now.since j))) (has jobs.waiting i)) (ne_eqb i j ne) ∙ notes.waiting i lt ∙ ap is_some (sym (there i ne))
    ];
  }

  -- the rounds of some are over
  pub notes_ended : (late : ℕ) (left : ℕ → Bool) (new : Jobs) (ends : Job → Bool) → EndsJobs ends jobs new →
      ((j : ℕ) (job : Job) → job_at k.word j ≡ Some job → (is_good epoch round k.since j job && not (ends job)) ≡ is_good late left k.since j job) → NotesJobs late left k new
  notes_ended late left new ends h good = record {
    sized = h.sized ∙ notes.sized;
    noted = λ j. h.noted j ∙ ap (option_map (ended ends)) (notes.noted j) ∙ noted_ended (job_at k.word j) (is_good epoch round k.since j) (is_good late left k.since j) ends (good j);
    waiting = λ j lt. ap (λ set. has set j) h.waiting ∙ notes.waiting j lt;
  }

  -- a log leaves the round that no job copies from
  pub notes_released : (l : ℕ) → IsUncopied k l → NotesJobs epoch (put round l false) k jobs
  notes_released l none = record {
    sized = notes.sized;
    noted = λ j. notes.noted j ∙ noted_same (job_at k.word j) (is_good epoch round k.since j) (is_good epoch (put round l false) k.since j)
        (λ job e. ap (λ b. (k.since j == epoch) && b) (sym (put_other round l false job.from.log (none j job e).0)));
    waiting = notes.waiting;
  }

-- ---- a job that is written down
known_of : (o : Option Job) (f : Job → Bool) (noted : Noted) → noted_of o f ≡ Some noted → (o ≡ Some noted.job) × (noted.good ≡ f noted.job)
known_of None f noted e = absurd cc
known_of (Some job) f noted e =
    let both : record { job = job; good = f job } ≡ noted = cc in
    (ap (λ (n : Noted). Some n.job) both, sym (ap (λ (n : Noted). n.good) both) ∙ ap (λ (n : Noted). f n.job) both)

unknown_of : (o : Option Job) (f : Job → Bool) → noted_of o f ≡ None → o ≡ None
unknown_of None f e = refl
unknown_of (Some job) f e = absurd cc

module _ (epoch : ℕ) (round : ℕ → Bool) (k : Copying) (jobs : Jobs) (notes : NotesJobs epoch round (unread k) jobs) (j : ℕ) where
  pub known_job : (noted : Noted) → noted_at jobs j ≡ Some noted → (job_at k.word j ≡ Some noted.job) × (noted.good ≡ is_good epoch round k.since j noted.job)
  known_job noted e =
      let x = known_of (job_at (unread k).word j) (is_good epoch round k.since j) noted (sym (notes.noted j) ∙ e) in
      (sym (same_jobs k j) ∙ x.0, x.1)

  pub unknown_job : noted_at jobs j ≡ None → job_at k.word j ≡ None
  unknown_job e = sym (same_jobs k j) ∙ unknown_of (job_at (unread k).word j) (is_good epoch round k.since j) (sym (notes.noted j) ∙ e)

-- ---- a log leaves the round
both_not : (a b c : Bool) → ((a && b) && not c) ≡ (a && (b && not c))
both_not true b c = refl
both_not false b c = refl

and_true : (b : Bool) → (b && true) ≡ b
and_true true = refl
and_true false = refl

and_false : (b : Bool) → (b && false) ≡ false
and_false true = refl
and_false false = refl

module _ (round : ℕ → Bool) where
  left_out : (l m : ℕ) → (round m && not (m == l)) ≡ put round l false m
  left_out l m = elim (cases_eq m l) [
    | inl e ↦ rw (eq-eqb m l e) (and_false (round m))
    | inr ne ↦ rw (ne_eqb m l ne) (and_true (round m))
  ]

  left_by : (o : Option PtrWord) (job : Job) → (round job.from.log && not (lies_in o job)) ≡ round_left round o job.from.log
  left_by None job = and_true (round job.from.log)
  left_by (Some Free) job = and_true (round job.from.log)
  left_by (Some (Near len ds place m)) job = left_out place.log job.from.log
  left_by (Some (Far len ds m)) job = and_true (round job.from.log)

  pub good_left : (epoch : ℕ) (since : ℕ → ℕ) (o : Option PtrWord) (j : ℕ) (job : Job) → (is_good epoch round since j job && not (lies_in o job)) ≡ is_good epoch (round_left round o) since j job
  good_left epoch since o j job = both_not (since j == epoch) (round job.from.log) (lies_in o job) ∙ ap (λ b. (since j == epoch) && b) (left_by o job)

-- ---- another round begins: none was offered in it
pub good_late : (epoch late : ℕ) (round left : ℕ → Bool) (since : ℕ → ℕ) (j : ℕ) (job : Job) → since j ≤ epoch → epoch < late → (is_good epoch round since j job && not true) ≡ is_good late left since j job
good_late epoch late round left since j job low lt = and_false (is_good epoch round since j job) ∙ sym (ap (λ b. b && left job.from.log) (ne_eqb (since j) late (λ e. omega (arith, low, lt, e))))

-- ---- a log that no job reads or writes
pub either_of : (a b : Bool) → (a || b) ≡ true → (a ≡ true) ⊎ (b ≡ true)
either_of true b e = inl refl
either_of false b e = inr e

copies_some : (l : ℕ) (o : Option Job) (f : Job → Bool) (job : Job) → o ≡ Some job → copies_at l (noted_of o f) ≡ false → (job.from.log ≢ l) × (job.to.log ≢ l)
copies_some l None f job e none = absurd cc
copies_some l (Some it) f job e none =
    let same : it ≡ job = cc in
    let says : (job.from.log == l || job.to.log == l) ≡ false = subst (λ (x : Job). (x.from.log == l || x.to.log == l) ≡ false) same none in
    (λ is. true≢false (sym (ap (λ b. b || (job.to.log == l)) (eq-eqb job.from.log l is)) ∙ says), λ is. true≢false (sym (or_right (job.from.log == l) (job.to.log == l) (eq-eqb job.to.log l is)) ∙ says))

copies_none : (l : ℕ) (o : Option Job) (f : Job → Bool) → copies_at l (noted_of o f) ≡ true → ((job : Job) → o ≡ Some job → (job.from.log ≢ l) × (job.to.log ≢ l)) → ⊥
copies_none l None f e none = false≢true e
copies_none l (Some job) f e none = let x = none job refl in elim (either_of (job.from.log == l) (job.to.log == l) e) [
  | inl a ↦ x.0 (eqb-true job.from.log l a)
  | inr b ↦ x.1 (eqb-true job.to.log l b)
]

module _ (s : State) (ledger : Ledger) (notes : Notes (own_part s) ledger) (l : ℕ) where
  pub none_copies : ((j : ℕ) → j < JOBS → copies_at l (noted_at ledger.jobs j) ≡ false) → IsUncopied s.copying l
  none_copies none j job e =
      let at : job_at (unread s.copying).word j ≡ Some job = same_jobs s.copying j ∙ e in
      let low : j < JOBS = job_low (own_part s).word s.starts (unread s.copying).word s.copying.named notes.law.copies.jobs j job at in
      copies_some l (job_at (unread s.copying).word j) (is_good s.round_epoch s.round s.copying.since j) job at (ap (copies_at l) (sym (notes.jobs.noted j)) ∙ none j low)

  pub some_copies : (j : ℕ) → copies_at l (noted_at ledger.jobs j) ≡ true → IsUncopied s.copying l → ⊥
  some_copies j e none = copies_none l (job_at (unread s.copying).word j) (is_good s.round_epoch s.round s.copying.since j) (ap (copies_at l) (sym (notes.jobs.noted j)) ∙ e)
      (λ job at. none j job (sym (same_jobs s.copying j) ∙ at))

-- a job's pointer is one of the heap's
header_of : (o : Option HeadWord) → 0 < len_in o → (h : HeadWord) × (o ≡ Some h)
header_of None some = absurd (omega arith)
header_of (Some h) some = (h, refl)

pub job_pointer : (s : State) → Law (own_part s) → (j : ℕ) (job : Job) → job_at s.copying.word j ≡ Some job → job.pointer < CELLS * s.mutators
job_pointer s law j job e =
    let spans = law.copies.jobs.job_spans j job (same_jobs s.copying j ∙ e) in
    let h = header_of (head_of ((own_part s).word (addr job.from))) (law.spans.span (addr job.from) spans.from).some in
    let low = law.spans.span_header (addr job.from) h.0 spans.from h.1 in
    subst (λ p. p < CELLS * s.mutators) (sym (ap pointer_in h.1) ∙ spans.pointer) low

-- where none is offered
pub none_job : (s : State) → HasNoJob s → (j : ℕ) → job_at s.copying.word j ≡ None
none_job s none j = ap (λ w. job_said (job_of w)) (none j) ∙ ap job_said unworded

-- ---- which jobs are empty
empty_said : (o : Option JobWord) → IsSome o → job_said o ≡ None → o ≡ Some Empty
empty_said None some e = absurd (false≢true some)
empty_said (Some Empty) some e = refl
empty_said (Some (Offered job)) some e = absurd cc
empty_said (Some (Taken job c)) some e = absurd cc
empty_said (Some (Finished job c)) some e = absurd cc

none_some : (o : Option Job) → is_some o ≡ false → o ≡ None
none_some None e = refl
none_some (Some job) e = absurd cc

module _ (s : State) (ledger : Ledger) (notes : Notes (own_part s) ledger) where
  -- one that isn't written down is empty
  pub empty_word : (j : ℕ) → j < JOBS → has ledger.jobs.waiting j ≡ false → s.copying.word j ≡ 0
  empty_word j lt none =
      let w = (own_part s).copying.word j in
      let said = none_some (job_at (own_part s).copying.word j) (sym (notes.jobs.waiting j (omega arith)) ∙ none) in
      untaken_zero (s.copying.word j) (sym (job_says w Empty (empty_said (job_of w) (notes.law.copies.jobs.job_read j).1 said)).1)

  -- and one that is isn't
  pub waiting_word : (j : ℕ) → j < JOBS → has ledger.jobs.waiting j ≡ true → s.copying.word j ≢ 0
  waiting_word j lt some empty =
      let none : job_at (own_part s).copying.word j ≡ None = same_jobs s.copying j ∙ ap (λ w. job_said (job_of w)) empty ∙ ap job_said unworded in
      true≢false (sym some ∙ notes.jobs.waiting j (omega arith) ∙ ap is_some none)
