-- The law of jobs where some functions of a state change: what is left to show.
use Rattle.std.proofs.Common.{◌≡◌, ◌≢◌, ℕ, ◌^◌, ◌<◌, ◌∙◌, Bool, true, false, arith, sym, refl, ap, inl, inr, Option, Some, None}
use Rattle.std.specs.Prelude.{◌⊎◌, IsSome}
use Rattle.far_word.specs.declared.sizes.TheConstants.{JOBS}
use Rattle.far_log.specs.Spans.{pointer_in}
use Rattle.std.proofs.lemmas.Bool.{false≢true, true≢false}
use Rattle.far_word.specs.declared.job.Job.{Job}
use Rattle.far_word.specs.declared.job.JobWord.TheVariants.{Empty, Taken, Finished}
use Rattle.far_word.specs.declared.pointer.Place.{Place}
use Rattle.far_word.specs.declared.pointer.PtrWord.{PtrWord}
use Rattle.far_word.specs.declared.pointer.PtrWord.TheVariants.{Free, Near, Far}
use Rattle.far_word.specs.Header.{head_of}
use Rattle.far_word.specs.Job.{job_of}
use Rattle.far_word.specs.Pointer.{read_of}
use Rattle.far_events.specs.declared.event.Task.{Task}
use Rattle.far_events.specs.state.Jobs.{is_finished, job_at, job_said, near_place, IsGood, job_words, source, target, JobLaw, TakenLaw, AimLaw, GoodLaw, SameAs, CopyLaw}
use Rattle.far_events.specs.state.Law.{Law}
use Rattle.far_events.specs.state.Opening.{no_copying}
use Rattle.far_core.specs.world.WorldOf.{world_of}
use Rattle.far_events.specs.state.State.{Copying, State, addr, put}
use Rattle.far_events.proofs.Cells.{Body, NoBody, FreeBody, NearBody, FarBody, Remarked, body}
use Rattle.far_events.proofs.Put.{put_both}
use Rattle.far_events.proofs.JobPlaces.{task_at, unworded}

module _ (word : ℕ → ℕ) (starts : ℕ → Bool) (new : ℕ → ℕ) (begun : ℕ → Bool) (k : Copying) (law : JobLaw word starts k.word k.named)
    (stands : (j : ℕ) (job : Job) → job_at k.word j ≡ Some job →
    (begun (addr job.from) ≡ true) × (begun (addr job.to) ≡ true) × (new (addr job.from) ≡ word (addr job.from)) × (new (addr job.to) ≡ word (addr job.to))) where
  pub keeps_jobs : JobLaw new begun k.word k.named
  keeps_jobs = record {
    job_read = law.job_read;
    job_range = law.job_range;
    job_spans = λ j job e. let x = law.job_spans j job e in let y = stands j job e in record {
      pointer = ap (λ w. pointer_in (head_of w)) y.2 ∙ x.pointer;
      alike = y.3 ∙ x.alike ∙ sym y.2;
      from = y.0;
      to = y.1;
    };
    targets_differ = law.targets_differ;
    target_no_source = law.target_no_source;
    unfinished_unnamed = law.unfinished_unnamed;
  }

  pub keeps_taken : TakenLaw word k.word k.task k.length k.read → TakenLaw new k.word k.task k.length k.read
  keeps_taken taken =
      let same = (λ (c : ℕ) (t : Task) (e : k.task c ≡ Some t). (stands t.number t.job (task_at word k taken c t e)).2) in
      record {
        taken_by = taken.taken_by;
        takes = taken.takes;
        long = λ c n t e l. rw (same c t e) (taken.long c n t e l);
        fits = λ c i w t e r. rw (same c t e) (taken.fits c i w t e r);
      }

-- what spans begun keep, where all that began begins still
pub stand_still : (word : ℕ → ℕ) (starts : ℕ → Bool) (new : ℕ → ℕ) (begun : ℕ → Bool) (k : Copying) → JobLaw word starts k.word k.named → ((a : ℕ) → starts a ≡ true → (begun a ≡ true) × (new a ≡ word a)) →
    (j : ℕ) (job : Job) → job_at k.word j ≡ Some job →
    (begun (addr job.from) ≡ true) × (begun (addr job.to) ≡ true) × (new (addr job.from) ≡ word (addr job.from)) × (new (addr job.to) ≡ word (addr job.to))
stand_still word starts new begun k law still j job e =
    let x = law.job_spans j job e in
    let y = still (addr job.from) x.from in let z = still (addr job.to) x.to in
    (y.0, z.0, y.1, z.1)

-- ---- what cells name: a place that is named anew is none at which a span began
pub keeps_aims : (word : ℕ → ℕ) (starts : ℕ → Bool) (cell new : ℕ → ℕ) (k : Copying) → JobLaw word starts k.word k.named → AimLaw cell k.word k.named →
    ((p : ℕ) (place : Place) → near_place (read_of (new p)) ≡ Some place → (near_place (read_of (cell p)) ≡ Some place) ⊎ (starts (addr place) ≡ false)) → AimLaw new k.word k.named
keeps_aims word starts cell new k jobs law only = record {
  unnamed = λ j job e n is. elim (only job.pointer job.to is) [
    | inl old ↦ law.unnamed j job e n old
    | inr fresh ↦ false≢true (sym fresh ∙ (jobs.job_spans j job e).to)
  ];
  left = λ j job e n is. elim (only job.pointer job.from is) [
    | inl old ↦ law.left j job e n old
    | inr fresh ↦ false≢true (sym fresh ∙ (jobs.job_spans j job e).from)
  ];
}

-- ---- a round that shrinks, and owners seen clear beside those that were
module _ (epoch : ℕ) (round less : ℕ → Bool) (k : Copying) (out : (l : ℕ) → less l ≡ true → round l ≡ true) where
  was_good : (j : ℕ) (job : Job) → IsGood epoch less k.since j job → IsGood epoch round k.since j job
  was_good j job g = (g.0, out job.from.log g.1)

  pub fewer_good : (clear more : ℕ → Bool) → ((m : ℕ) → clear m ≡ true → more m ≡ true) → GoodLaw epoch round clear k.word k.since → GoodLaw epoch less more k.word k.since
  fewer_good clear more still law = record {
    begun = law.begun;
    seen = λ j job e g. still _ (law.seen j job e (was_good j job g));
    outside = λ j job e g. not_in (round job.to.log) (less job.to.log) (out job.to.log) (law.outside j job e (was_good j job g));
  } where
    not_in : (b c : Bool) → (c ≡ true → b ≡ true) → b ≡ false → c ≡ false
    not_in b true h e = absurd (true≢false (sym (h refl) ∙ e))
    not_in b false h e = refl

  pub fewer_same : (word : ℕ → ℕ) → SameAs epoch round word k → SameAs epoch less word k
  fewer_same word law = record {
    read = λ c i w t e g. law.read c i w t e (was_good t.number t.job g);
    written = λ c i t e g. law.written c i t e (was_good t.number t.job g);
    finished = λ j c job e g. law.finished j c job e (was_good j job g);
  }

-- ---- words that change outside the spans of good jobs
module _ (epoch : ℕ) (round : ℕ → Bool) (word new : ℕ → ℕ) (k : Copying) (taken : TakenLaw word k.word k.task k.length k.read) (law : SameAs epoch round word k)
    (heads : (j : ℕ) (job : Job) → job_at k.word j ≡ Some job → new (addr job.from) ≡ word (addr job.from))
    (sources : (j : ℕ) (job : Job) → job_at k.word j ≡ Some job → IsGood epoch round k.since j job → (i : ℕ) → i < job_words word job → source new job i ≡ source word job i)
    (targets : (j : ℕ) (job : Job) → job_at k.word j ≡ Some job → k.named j ≡ false → (i : ℕ) → i < job_words word job → target new job i ≡ target word job i)
    (unnamed : (c : ℕ) (t : Task) → k.task c ≡ Some t → k.named t.number ≡ false) where
  pub keeps_same : SameAs epoch round new k
  keeps_same = record {
    read = λ c i w t e g r. sources t.number t.job (task_at word k taken c t e) g i (taken.fits c i w t e r).0 ∙ law.read c i w t e g r;
    written = λ c i t e g r lt.
        let at = task_at word k taken c t e in
        let low : i < job_words word t.job = rw (heads t.number t.job at) at lt in
        targets t.number t.job at (unnamed c t e) i low ∙ law.written c i t e g r low ∙ sym (sources t.number t.job at g i low);
    finished = λ j c job e g n i lt.
        let at : job_at k.word j ≡ Some job = rw e refl in
        let low : i < job_words word job = rw (heads j job at) at lt in
        targets j job at n i low ∙ law.finished j c job e g n i low ∙ sym (sources j job at g i low);
  }

-- ---- marks
pub near_place-body : (o n : Option PtrWord) → body n ≡ body o → near_place n ≡ near_place o
near_place-body o n e = sym (of_body n) ∙ ap place_in e ∙ of_body o where
  place_in : Body → Option Place
  place_in NoBody = None
  place_in FreeBody = None
  place_in (NearBody len ds place) = Some place
  place_in (FarBody len ds) = None

  of_body : (o : Option PtrWord) → place_in (body o) ≡ near_place o
  of_body None = refl
  of_body (Some Free) = refl
  of_body (Some (Near len ds place m)) = refl
  of_body (Some (Far len ds m)) = refl

-- the law with another cell, which names what it named, or nothing, or a place at which no span began
pub copies_with_cell : (s : State) (p w : ℕ) → Law s →
    ((place : Place) → near_place (read_of w) ≡ Some place → (near_place (read_of (s.cell p)) ≡ Some place) ⊎ (s.starts (addr place) ≡ false)) →
    CopyLaw (put s.cell p w) s.word s.starts s.round s.round_epoch s.clear s.copying
copies_with_cell s p w law only = record {
  jobs = law.copies.jobs;
  taken = law.copies.taken;
  aims = keeps_aims s.word s.starts s.cell (put s.cell p w) s.copying law.copies.jobs law.copies.aims
      (λ q place. put_both (λ x. near_place (read_of x) ≡ Some place → (near_place (read_of (s.cell q)) ≡ Some place) ⊎ (s.starts (addr place) ≡ false)) s.cell p w q
      (λ e is. rw e (only place is)) (λ _ is. inl is));
  good = law.copies.good;
  same = law.copies.same;
}

pub copies_remarked : (s : State) (p w : ℕ) → Law s → Remarked (read_of (s.cell p)) (read_of w) → CopyLaw (put s.cell p w) s.word s.starts s.round s.round_epoch s.clear s.copying
copies_remarked s p w law r = copies_with_cell s p w law (λ place is. inl (sym (near_place-body _ _ r.same) ∙ is))

-- a copier's job isn't finished, so its target isn't named
pub task_unnamed : (word : ℕ → ℕ) (starts : ℕ → Bool) (k : Copying) → JobLaw word starts k.word k.named → TakenLaw word k.word k.task k.length k.read → (c : ℕ) (t : Task) → k.task c ≡ Some t → k.named t.number ≡ false
task_unnamed word starts k jobs taken c t e = jobs.unfinished_unnamed t.number t.job (task_at word k taken c t e) (rw (taken.takes c t e) refl)

-- ---- the law, part by part
-- fewer logs in the round, more owners seen clear
pub copies_fewer : (s : State) (round clear : ℕ → Bool) → Law s → ((l : ℕ) → round l ≡ true → s.round l ≡ true) → ((m : ℕ) → s.clear m ≡ true → clear m ≡ true) →
    CopyLaw s.cell s.word s.starts round s.round_epoch clear s.copying
copies_fewer s round clear law out still = record {
  jobs = law.copies.jobs;
  taken = law.copies.taken;
  aims = law.copies.aims;
  good = fewer_good s.round_epoch s.round round s.copying out s.clear clear still law.copies.good;
  same = fewer_same s.round_epoch s.round round s.copying out s.word law.copies.same;
}

-- words change that are no headers
pub copies_with_words : (s : State) (new : ℕ → ℕ) → Law s → ((a : ℕ) → s.starts a ≡ true → new a ≡ s.word a) → SameAs s.round_epoch s.round new s.copying →
    CopyLaw s.cell new s.starts s.round s.round_epoch s.clear s.copying
copies_with_words s new law heads same =
    let stands = stand_still s.word s.starts new s.starts s.copying law.copies.jobs (λ a h. (h, heads a h)) in
    record {
      jobs = keeps_jobs s.word s.starts new s.starts s.copying law.copies.jobs stands;
      taken = keeps_taken s.word s.starts new s.starts s.copying law.copies.jobs stands law.copies.taken;
      aims = law.copies.aims;
      good = law.copies.good;
      same = same;
    }

-- more spans are begun
pub copies_with_begun : (s : State) (begun : ℕ → Bool) → Law s → ((a : ℕ) → s.starts a ≡ true → begun a ≡ true) →
    CopyLaw s.cell s.word begun s.round s.round_epoch s.clear s.copying
copies_with_begun s begun law more =
    let stands = stand_still s.word s.starts s.word begun s.copying law.copies.jobs (λ a h. (more a h, refl)) in
    record { jobs = keeps_jobs s.word s.starts s.word begun s.copying law.copies.jobs stands; taken = law.copies.taken; aims = law.copies.aims; good = law.copies.good; same = law.copies.same }

-- the same, and a cell names a place at which none was
pub copies_with_span : (s : State) (p new : ℕ) (begun : ℕ → Bool) → Law s → ((a : ℕ) → s.starts a ≡ true → begun a ≡ true) →
    ((place : Place) → near_place (read_of new) ≡ Some place → s.starts (addr place) ≡ false) →
    CopyLaw (put s.cell p new) s.word begun s.round s.round_epoch s.clear s.copying
copies_with_span s p new begun law more fresh =
    let with = copies_with_begun s begun law more in
    record { jobs = with.jobs; taken = with.taken; aims = (copies_with_cell s p new law (λ place is. inr (fresh place is))).aims; good = with.good; same = with.same }

-- ---- a job's word changes, and it is of the same job
module _ (jobs : ℕ → ℕ) (j w : ℕ) (same : job_said (job_of w) ≡ job_at jobs j) where
  same_jobs : (i : ℕ) (job : Job) → job_at (put jobs j w) i ≡ Some job → job_at jobs i ≡ Some job
  same_jobs i job = put_both (λ x. job_said (job_of x) ≡ Some job → job_at jobs i ≡ Some job) jobs j w i (λ e is. ap (job_at jobs) e ∙ sym same ∙ is) (λ _ is. is)

  pub reworded_jobs : (word : ℕ → ℕ) (starts named : ℕ → Bool) → JobLaw word starts jobs named → w < 2 ^ 64 → IsSome (job_of w) → j < JOBS →
      ((job : Job) → job_at jobs j ≡ Some job → is_finished (job_of w) ≡ false → named j ≡ false) → JobLaw word starts (put jobs j w) named
  reworded_jobs word starts named law fits reads low unnamed = record {
    job_read = λ i. put_both (λ x. (x < 2 ^ 64) × IsSome (job_of x)) jobs j w i (λ _. (fits, reads)) (λ _. law.job_read i);
    job_range = λ i. put_both (λ x. x ≢ 0 → i < JOBS) jobs j w i (λ e _. rw e low) (λ _. law.job_range i);
    job_spans = λ i job e. law.job_spans i job (same_jobs i job e);
    targets_differ = λ i k a b e f. law.targets_differ i k a b (same_jobs i a e) (same_jobs k b f);
    target_no_source = λ i k a b e f. law.target_no_source i k a b (same_jobs i a e) (same_jobs k b f);
    unfinished_unnamed = λ i job e. put_both (λ x. is_finished (job_of x) ≡ false → named i ≡ false) jobs j w i
        (λ is undone. rw is (unnamed job (ap (job_at jobs) (sym is) ∙ same_jobs i job e) undone)) (λ _. law.unfinished_unnamed i job (same_jobs i job e));
  }

  pub reworded_aims : (cell : ℕ → ℕ) (named : ℕ → Bool) → AimLaw cell jobs named → AimLaw cell (put jobs j w) named
  reworded_aims cell named law = record { unnamed = λ i job e. law.unnamed i job (same_jobs i job e); left = λ i job e. law.left i job (same_jobs i job e) }

  pub reworded_good : (epoch : ℕ) (round clear : ℕ → Bool) (since : ℕ → ℕ) → GoodLaw epoch round clear jobs since → GoodLaw epoch round clear (put jobs j w) since
  reworded_good epoch round clear since law =
      record { begun = law.begun; seen = λ i job e. law.seen i job (same_jobs i job e); outside = λ i job e. law.outside i job (same_jobs i job e) }

-- ---- what is copied changes alone
pub law_with_copying : (s : State) (k : Copying) → Law s → CopyLaw s.cell s.word s.starts s.round s.round_epoch s.clear k → Law record s { copying = k }
law_with_copying s k law copies = record {
  shape = law.shape;
  cells = law.cells;
  spans = law.spans;
  logs = law.logs;
  scopes = law.scopes;
  views = law.views;
  rounds = law.rounds;
  clears = law.clears;
  unadopted = law.unadopted;
  copies = copies;
  soils = law.soils;
  cleans = law.cleans;
}

pub copying_stays : (s : State) (k : Copying) → world_of record s { copying = k } ≡ world_of s
unfolding world_of
copying_stays s k = refl

-- ---- no jobs
pub no_job : (j : ℕ) (job : Job) → job_at no_copying.word j ≢ Some job
no_job j job e = let odd : None ≡ Some job = sym (ap job_said unworded) ∙ e in cc

-- without jobs the law of jobs says nothing
pub no_copies : (has : Bool) (cell word : ℕ → ℕ) (starts round : ℕ → Bool) (epoch : ℕ) (clear : ℕ → Bool) → CopyLaw cell word starts round epoch clear record no_copying { has_copiers = has }
no_copies has cell word starts round epoch clear = record {
  jobs = record {
    job_read = λ j. (omega arith, rw unworded refl);
    job_range = λ j ne. absurd (ne refl);
    job_spans = λ j job e. absurd (no_job j job e);
    targets_differ = λ i j a b e. absurd (no_job i a e);
    target_no_source = λ i j a b e. absurd (no_job i a e);
    unfinished_unnamed = λ j job e. absurd (no_job j job e);
  };
  taken = record {
    taken_by = λ j c job e. let odd : Some Empty ≡ Some (Taken job c) = sym unworded ∙ e in absurd cc;
    takes = λ c t e. absurd cc;
    long = λ c n t e. absurd cc;
    fits = λ c i w t e. absurd cc;
  };
  aims = record { unnamed = λ j job e. absurd (no_job j job e); left = λ j job e. absurd (no_job j job e) };
  good = record { begun = λ j. omega arith; seen = λ j job e. absurd (no_job j job e); outside = λ j job e. absurd (no_job j job e) };
  same = record { read = λ c i w t e. absurd cc; written = λ c i t e. absurd cc; finished = λ j c job e. let odd : Some Empty ≡ Some (Finished job c) = sym unworded ∙ e in absurd cc };
}
