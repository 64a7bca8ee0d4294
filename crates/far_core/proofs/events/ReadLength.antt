-- What the event ReadLength owes.
use Rattle.std.proofs.Common.{◌≡◌, ℕ, ◌∙◌, true, inl, inr, ap, refl, sym, Option, Some, None}
use Rattle.std.specs.Prelude.{is_some}
use Rattle.std.proofs.lemmas.Bool.{false≢true}
use Rattle.far_log.specs.Spans.{head_len}
use Rattle.far_events.specs.declared.event.Event.TheVariants.{ReadLength}
use Rattle.far_events.specs.declared.event.Task.{Task}
use Rattle.far_events.specs.events.ReadLength.{after_length}
use Rattle.far_events.specs.events.Step.{change_of}
use Rattle.far_events.specs.events.Tasks.{HasTask}
use Rattle.far_core.specs.laws.Worlds.{Caused}
use Rattle.far_events.specs.state.Law.{Law}
use Rattle.far_events.specs.state.State.{State, addr}
use Rattle.far_core.proofs.KeepJobs.{copying_stays, law_with_copying}
use Rattle.far_core.proofs.Owed.{Owed, replies}
use Rattle.far_events.proofs.Put.{put_cases, put_other, put_same}
use Rattle.far_core.proofs.Touching.{copier_touched}

pub task_fact : (s : State) (c : ℕ) (o : Option Task) → s.copying.task c ≡ o → is_some o ≡ true → (t : Task) × HasTask s c t
task_fact s c None e h = absurd (false≢true h)
task_fact s c (Some t) e h = (t, e)

keeps_length : (s : State) → Law s → (c : ℕ) (t : Task) → HasTask s c t → Law (after_length s c (s.word (addr t.job.from)))
keeps_length s law c t has =
    let copies = law.copies in
    law_with_copying s _ law (record {
      jobs = copies.jobs;
      taken = record {
        taken_by = copies.taken.taken_by;
        takes = copies.taken.takes;
        long = λ d n x is l. elim (put_cases s.copying.length c (Some (head_len (s.word (addr t.job.from)))) d (Some n) l) [
          | inl (e, l) ↦ (let both : Some t ≡ Some x = sym has ∙ ap s.copying.task (sym e) ∙ is in
              let one : t ≡ x = cc in let got : head_len (s.word (addr t.job.from)) ≡ n = cc in
              sym got ∙ ap (λ (y : Task). head_len (s.word (addr y.job.from))) one)
          | inr (ne, l) ↦ copies.taken.long d n x is l
        ];
        fits = copies.taken.fits;
      };
      aims = copies.aims;
      good = copies.good;
      same = copies.same;
    })

module _ (c : ℕ) where
  pub read_length_owed : Owed (ReadLength c)
  read_length_owed = record {
    fact = λ s law h. task_fact s c (s.copying.task c) refl h;
    test = λ s h. rw h.1 refl;
    keeps = λ s law fits h. rw h.1 (keeps_length s law c h.0 h.1);
    does = λ s law fits h. copying_stays s _;
    within = λ s. copier_touched c (λ a ne. refl) refl refl refl (λ d ne. record { task = refl; length = put_other s.copying.length c _ d ne; read = refl; written = refl });
    part = λ s h. inr (inl refl);
    word = λ s h. tt;
    reports = λ s law h. (refl, put_same s.copying.length c _ c refl);
    silent = λ s t h. h;
    answers = λ s x. cc;
    causes = replies (λ r. Caused (ReadLength c) (change_of (ReadLength c) r)) tt tt (λ n. tt) (λ x. tt) (λ place. tt);
  }
