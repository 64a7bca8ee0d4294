-- What the event Write owes.
use Rattle.std.proofs.Common.{◌≡◌, ◌≢◌, ℕ, ◌+◌, ◌-◌, ◌*◌, ◌^◌, ◌<◌, ◌∙◌, true, false, arith, inl, inr, ap, refl, sym, subst, Option, Some, None}
use Rattle.std.specs.Prelude.{Bool, is_some, ◌⊎◌}
use Rattle.std.proofs.lemmas.Bool.{cases_eq, false≢true}
use mathlib.Core.Path.{fun_ext}
use Rattle.far_word.specs.declared.job.Job.{Job}
use Rattle.far_word.specs.declared.job.JobWord.TheVariants.{Taken, Finished}
use Rattle.far_word.specs.declared.mark.Marks.{Marks}
use Rattle.far_word.specs.declared.pointer.Place.{Place}
use Rattle.far_word.specs.declared.pointer.PtrWord.TheVariants.{Near}
use Rattle.far_word.specs.Job.{job_of}
use Rattle.far_word.specs.Pointer.{read_of}
use Rattle.far_word.specs.Sizes.{words_for}
use Rattle.far_events.specs.declared.event.Event.TheVariants.{Write}
use Rattle.far_events.specs.declared.event.Task.{Task}
use Rattle.far_events.specs.events.Step.{change_of}
use Rattle.far_events.specs.events.Tasks.{HasTask}
use Rattle.far_events.specs.events.Write.{after_write}
use Rattle.far_core.specs.laws.Worlds.{Caused}
use Rattle.far_events.specs.state.Jobs.{IsGood, SameAs, job_at, job_words, source, target}
use Rattle.far_events.specs.state.Law.{Law, head_len}
use Rattle.far_events.specs.state.State.{State, addr, put}
use Rattle.far_core.specs.world.WorldOf.{world_of}
use Rattle.far_events.proofs.Bounds.{span_len}
use Rattle.far_events.proofs.Guards.{parts}
use Rattle.far_events.proofs.JobPlaces.{job_bounds, not_target, same_place, task_at}
use Rattle.far_core.proofs.KeepJobs.{law_with_copying, task_unnamed}
use Rattle.far_core.proofs.KeepWords.{data_stays, head_stays, keeps_store}
use Rattle.far_core.proofs.Owed.{Owed, replies}
use Rattle.far_events.proofs.Put.{put_cases, put_cases_of, put_other, put_same}
use Rattle.far_core.proofs.Touching.{copier_touched, one_word}
use Rattle.far_core.proofs.Worlds.{World-ext, object_same}
use Rattle.far_core.proofs.events.ReadLength.{task_fact}

word_fact : (s : State) (c i : ℕ) (o : Option ℕ) → s.copying.read c i ≡ o → is_some o ≡ true → (w : ℕ) × (s.copying.read c i ≡ Some w)
word_fact s c i None e h = absurd (false≢true h)
word_fact s c i (Some w) e h = (w, e)

module _ (s : State) (law : Law s) (c i w : ℕ) (t : Task) (has : HasTask s c t) (knows : s.copying.read c i ≡ Some w) where
  here : job_at s.copying.word t.number ≡ Some t.job
  here = task_at s.word s.copying law.copies.taken c t has

  unnamed : s.copying.named t.number ≡ false
  unnamed = task_unnamed s.word s.starts s.copying law.copies.jobs law.copies.taken c t has

  placed : s.starts (addr t.job.to) ≡ true
  placed = (law.copies.jobs.job_spans t.number t.job here).to

  long : head_len (s.word (addr t.job.to)) ≡ head_len (s.word (addr t.job.from))
  long = ap head_len (law.copies.jobs.job_spans t.number t.job here).alike

  fits : (i < job_words s.word t.job) × (w < 2 ^ 64) × (w < 2 ^ (8 * (head_len (s.word (addr t.job.from)) - 8 * i)))
  fits = law.copies.taken.fits c i w t has knows

  low : i < job_words s.word t.job
  low = fits.0

  abbrev pub replaced : ℕ → ℕ
  replaced = put s.word (addr t.job.to + 1 + i) w

  -- the data of any other span stays
  stays : (b : ℕ) → s.starts b ≡ true → b ≢ addr t.job.to → (n : ℕ) → n < words_for (head_len (s.word b)) → replaced (b + 1 + n) ≡ s.word (b + 1 + n)
  stays = data_stays s law (addr t.job.to) placed i (rw long low) w fits.1 (rw long fits.2)

  -- so do the sources of all jobs, and the targets of the others
  sources : (j : ℕ) (job : Job) → job_at s.copying.word j ≡ Some job → (n : ℕ) → n < job_words s.word job → source replaced job n ≡ source s.word job n
  sources j job at n lt =
      let x = law.copies.jobs.job_spans j job at in
      let a = (job_bounds s.copying j job at).from in let b = (job_bounds s.copying t.number t.job here).to in
      stays (addr job.from) x.from (λ e. law.copies.jobs.target_no_source t.number j t.job job here at unnamed (sym (same_place job.from t.job.to (omega arith) (omega arith) e))) n lt

  targets : (j : ℕ) (job : Job) → job_at s.copying.word j ≡ Some job → j ≢ t.number → (n : ℕ) → n < job_words s.word job → target replaced job n ≡ target s.word job n
  targets j job at ne n lt =
      let x = law.copies.jobs.job_spans j job at in
      let a = (job_bounds s.copying j job at).to in let b = (job_bounds s.copying t.number t.job here).to in
      stays (addr job.to) x.to (λ e. ne (law.copies.jobs.targets_differ j t.number job t.job at here (same_place job.to t.job.to (omega arith) (omega arith) e))) n (rw x.alike lt)

  -- what is written of a good job is what was read, before and after
  then : (d n : ℕ) (x : Task) → s.copying.task d ≡ Some x → IsGood s.round_epoch s.round s.copying.since x.number x.job → n < job_words s.word x.job →
      (s.copying.written d n ≡ true) ⊎ ((d ≡ c) × (n ≡ i)) → target replaced x.job n ≡ source replaced x.job n
  then d n x is good lt wrote = elim (cases_eq x.number t.number) [
    | inl e ↦ (let both : Some (Taken x.job d) ≡ Some (Taken t.job c) = sym (law.copies.taken.takes d x is) ∙ ap (λ j. job_of (s.copying.word j)) e ∙ law.copies.taken.takes c t has in
        let own : d ≡ c = cc in let one : x.job ≡ t.job = cc in
        elim (cases_eq n i) [
          | inl at ↦ (let good2 : IsGood s.round_epoch s.round s.copying.since t.number t.job = (ap s.copying.since (sym e) ∙ good.0, ap (λ (o : Job). s.round o.from.log) (sym one) ∙ good.1) in
              ap (λ (o : Job). target replaced o n) one ∙ put_same s.word (addr t.job.to + 1 + i) w (addr t.job.to + 1 + n) (ap (λ k. addr t.job.to + 1 + k) at)
              ∙ sym (law.copies.same.read c i w t has good2 knows) ∙ ap (source s.word t.job) (sym at) ∙ sym (sources t.number t.job here n (subst (λ (o : Job). n < job_words s.word o) one lt)) ∙ ap (λ (o : Job). source replaced o n) (sym one))
          | inr other ↦ elim wrote [
            | inl old ↦ ap (λ (o : Job). target replaced o n) one ∙ put_other s.word (addr t.job.to + 1 + i) w (addr t.job.to + 1 + n) (λ k. other (omega arith)) ∙ ap (λ (o : Job). target s.word o n) (sym one)
                ∙ law.copies.same.written d n x is good old lt ∙ sym (sources x.number x.job (task_at s.word s.copying law.copies.taken d x is) n lt)
            | inr now ↦ absurd (other now.1)
          ]
        ])
    | inr ne ↦ (let at = task_at s.word s.copying law.copies.taken d x is in
        elim wrote [
          | inl old ↦ targets x.number x.job at ne n lt ∙ law.copies.same.written d n x is good old lt ∙ sym (sources x.number x.job at n lt)
          | inr now ↦ absurd (ne (let both : Some x ≡ Some t = sym is ∙ ap s.copying.task now.0 ∙ has in cc))
        ])
  ]

  pub heads : (a : ℕ) → s.starts a ≡ true → replaced a ≡ s.word a
  heads = head_stays s law (addr t.job.to) placed i (rw long low) w fits.1 (rw long fits.2)

  words_same : (j : ℕ) (job : Job) → job_at s.copying.word j ≡ Some job → job_words replaced job ≡ job_words s.word job
  words_same j job at = ap (λ x. words_for (head_len x)) (heads (addr job.from) (law.copies.jobs.job_spans j job at).from)

  same_then : SameAs s.round_epoch s.round replaced s.copying
  same_then = record {
    read = λ d n v x is good r. sources x.number x.job (task_at s.word s.copying law.copies.taken d x is) n (law.copies.taken.fits d n v x is r).0 ∙ law.copies.same.read d n v x is good r;
    written = λ d n x is good r lt. then d n x is good (subst (λ k. n < k) (words_same x.number x.job (task_at s.word s.copying law.copies.taken d x is)) lt) (inl r);
    finished = λ j d job is good new n lt.
        let at : job_at s.copying.word j ≡ Some job = rw is refl in
        let ne : j ≢ t.number = (λ e. let odd : Some (Finished job d) ≡ Some (Taken t.job c) = sym is ∙ ap (λ k. job_of (s.copying.word k)) e ∙ law.copies.taken.takes c t has in absurd cc) in
        let less : n < job_words s.word job = subst (λ k. n < k) (words_same j job at) lt in
        targets j job at ne n less ∙ law.copies.same.finished j d job is good new n less ∙ sym (sources j job at n less);
  }

  -- the data words of an object that a cell names stay
  pub object_stays : (q n d : ℕ) (at : Place) (k : Marks) → read_of (s.cell q) ≡ Some (Near n d at k) → (j : ℕ) → j < words_for n → replaced (addr at + 1 + j) ≡ s.word (addr at + 1 + j)
  object_stays q n d at k e j lt =
      let there = law.cells.cell_near q n d at k e in
      let size : head_len (s.word (addr at)) ≡ n = rw (span_len s law q n d at k e) refl in
      stays (addr at) there.placed (not_target s law q n d at k e t.number t.job here unnamed) j (omega (arith, size))

  law_with_word : Law record s { word = replaced }
  law_with_word = keeps_store s law (addr t.job.to) placed i (rw long low) w fits.1 (rw long fits.2)
      (λ honest q free. record {
        far = (law.unadopted honest q free).far;
        near = λ n d at k e kept j lt. object_stays q n d at k e j lt ∙ (law.unadopted honest q free).near n d at k e kept j lt;
      })
      (λ q. record {
        back = (law.cleans q).back;
        same = λ honest n d at k e none j lt. (law.cleans q).same honest n d at k e none j lt ∙ sym (object_stays q n d at k e j lt);
      })
      same_then

  pub keeps_write : Law (after_write s c i (addr t.job.to + 1 + i) w)
  keeps_write =
      let law2 = law_with_word in
      law_with_copying record s { word = replaced } _ law2 (record {
        jobs = law2.copies.jobs;
        taken = law2.copies.taken;
        aims = law2.copies.aims;
        good = law2.copies.good;
        same = record {
          read = law2.copies.same.read;
          written = λ d n x is good r lt.
              let less : n < job_words s.word x.job = subst (λ k. n < k) (words_same x.number x.job (task_at s.word s.copying law.copies.taken d x is)) lt in
              elim (put_cases_of s.copying.written c (put (s.copying.written c) i true) d (λ f. f n ≡ true) r) [
                | inl (e, r) ↦ elim (put_cases (s.copying.written c) i true n true r) [
                  | inl (at, r) ↦ then d n x is good less (inr (e, at))
                  | inr (other, r) ↦ then d n x is good less (inl (ap (λ y. s.copying.written y n) e ∙ r))
                ]
                | inr (ne, r) ↦ then d n x is good less (inl r)
              ];
          finished = law2.copies.same.finished;
        };
      })

  pub write_stays : world_of (after_write s c i (addr t.job.to + 1 + i) w) ≡ world_of s
  unfolding world_of
  write_stays = World-ext _ _ (fun_ext (λ q. object_same replaced s.word (s.stored q) q _ (λ n d at k e j lt. object_stays q n d at k e j lt))) refl refl refl refl refl

module _ (c i : ℕ) where
  pub write_owed : Owed (Write c i)
  write_owed = record {
    fact = λ s law h.
        let x = parts (is_some (s.copying.task c)) (is_some (s.copying.read c i)) h in
        let a = task_fact s c (s.copying.task c) refl x.0 in let b = word_fact s c i (s.copying.read c i) refl x.1 in
        (a.0, b.0, a.1, b.1);
    test = λ s h. rw (h.2, h.3) refl;
    keeps = λ s law fits h. rw (h.2, h.3) (keeps_write s law c i h.1 h.0 h.2 h.3);
    does = λ s law fits h. rw (h.2, h.3) (write_stays s law c i h.1 h.0 h.2 h.3);
    within = λ s. copier_touched c (one_word s.epoch s.scope s.cell s.word s.copying.word _ _) refl refl refl (λ d ne. record { task = refl; length = refl; read = refl; written = put_other s.copying.written c _ d ne });
    part = λ s h. inr (inr (inr (inl (i, refl))));
    word = λ s h. inr (inr (c, i, refl, refl));
    reports = λ s law h. (rw h.3 (ap Some (sym (put_same s.word _ _ _ refl))), ap (λ (f : ℕ → Bool). f i) (put_same s.copying.written c _ c refl) ∙ put_same (s.copying.written c) i true i refl);
    silent = λ s t h. h;
    answers = λ s x. cc;
    causes = replies (λ r. Caused (Write c i) (change_of (Write c i) r)) tt tt (λ n. tt) (λ x. tt) (λ place. tt);
  }
