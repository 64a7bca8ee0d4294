-- Why events about jobs are refused.
use Rattle.std.proofs.Common.{◌≡◌, ◌≢◌, ℕ, ◌/◌, ◌^◌, ◌<◌, ◌⊎◌, ◌∙◌, true, arith, ap, inl, inr, refl, sym, subst, Option, Some, None}
use Rattle.std.proofs.lemmas.Bool.{false≢true}
use Rattle.far_word.specs.declared.job.Job.{Job}
use Rattle.far_word.specs.declared.job.JobWord.{JobWord}
use Rattle.far_word.specs.declared.job.JobWord.TheVariants.{Empty, Offered, Taken, Finished}
use Rattle.far_word.specs.declared.sizes.TheConstants.{MOST_COPIERS, POINTERS}
use Rattle.far_word.specs.Job.{IsJob, job_of, job_sum}
use Rattle.far_word.proofs.JobLaws.{job_says}
use Rattle.far_events.specs.declared.event.Event.TheVariants as event
use Rattle.far_events.specs.declared.event.Task.{Task}
use Rattle.far_events.specs.events.Collect.{is_loose}
use Rattle.far_events.specs.events.Tasks.{HasTask}
use Rattle.far_core.specs.laws.Refusals.{CopyingIsRefused}
use Rattle.far_events.specs.state.Jobs.{job_words}
use Rattle.far_events.specs.state.Law.{Law}
use Rattle.far_events.specs.state.State.{State}
use Rattle.far_core.proofs.RefusedEvents.{refused}

-- the stage of a job stands in the two highest bits
stage_of : (k : Job) (c stage w : ℕ) → IsJob k → c < MOST_COPIERS → job_sum k c stage ≡ w → w / 2 ^ 62 ≡ stage
stage_of k c stage w ok few is = let a : k.pointer < POINTERS = ok.cell in let b = ok.from in let d = ok.to in omega arith

offered_stage : (w : ℕ) (k : Job) → job_of w ≡ Some (Offered k) → w / 2 ^ 62 ≡ 1
offered_stage w k is = let x = job_says w (Offered k) is in stage_of k 0 1 w x.0 (omega arith) x.1

loose_stage : (w : ℕ) (o : Option JobWord) → job_of w ≡ o → is_loose o ≡ true → (w / 2 ^ 62 ≡ 1) ⊎ (w / 2 ^ 62 ≡ 3)
loose_stage w None is h = absurd (false≢true h)
loose_stage w (Some Empty) is h = absurd (false≢true h)
loose_stage w (Some (Offered k)) is h = inl (offered_stage w k is)
loose_stage w (Some (Taken k c)) is h = absurd (false≢true h)
loose_stage w (Some (Finished k c)) is h = inr (let x = job_says w (Finished k c) is in stage_of k c 3 w x.0.0 x.0.1 x.1)

not_loose : (w stage : ℕ) → w / 2 ^ 62 ≡ stage → stage ≢ 1 → stage ≢ 3 → is_loose (job_of w) ≢ true
not_loose w stage is one three h = elim (loose_stage w (job_of w) refl h) [ inl e ↦ one (sym is ∙ e) | inr e ↦ three (sym is ∙ e) ]

module _ (s : State) (law : Law s) where
  -- who has no job, and who has this one
  idle : (c : ℕ) (t : Task) → s.copying.task c ≡ None → HasTask s c t → ⊥
  idle c t none has = let odd : None ≡ Some t = sym none ∙ has in cc

  same_words : (c : ℕ) (t x : Task) → HasTask s c t → HasTask s c x → job_words s.word x.job ≡ job_words s.word t.job
  same_words c t x has is = let both : Some x ≡ Some t = sym is ∙ has in let one : x ≡ t = cc in ap (λ (y : Task). job_words s.word y.job) one

  pub copying_refused : CopyingIsRefused s
  copying_refused = record {
    claim_past = λ c j old le. refused s law (event.Claim c j old) (λ h. omega (arith, h.1, le));
    claim_none = λ c j old le. refused s law (event.Claim c j old) (λ h. omega (arith, h.0, le));
    claim_again = λ c j old t has. refused s law (event.Claim c j old) (λ h. idle c t h.2 has);
    claim_unoffered = λ c j old ne. refused s law (event.Claim c j old) (λ h. ne (offered_stage old h.3.0 h.3.1));
    claim_alone = λ c j old none. refused s law (event.Claim c j old) (λ h. false≢true (sym none ∙ h.4));
    claim_off_layout = λ c j old none. refused s law (event.Claim c j old) (λ h. let odd : None ≡ Some (Offered h.3.0) = sym none ∙ h.3.1 in cc);
    length_idle = λ c none. refused s law (event.ReadLength c) (λ h. idle c h.0 none h.1);
    read_idle = λ c i none. refused s law (event.Read c i) (λ h. idle c h.0 none h.1);
    read_over = λ c i t has le. refused s law (event.Read c i)
        (λ h. let low : i < job_words s.word t.job = subst (λ n. i < n) (same_words c t h.0 has h.1) h.2 in omega (arith, low, le));
    write_idle = λ c i none. refused s law (event.Write c i) (λ h. idle c h.0 none h.2);
    write_unread = λ c i none. refused s law (event.Write c i) (λ h. let odd : None ≡ Some h.1 = sym none ∙ h.3 in cc);
    finish_idle = λ c none. refused s law (event.Finish c) (λ h. idle c h.0 none h.1);
    finish_unwritten = λ c i t has lt none. refused s law (event.Finish c)
        (λ h. let low : i < job_words s.word t.job = omega (arith, lt) in false≢true (sym none ∙ h.2 i (subst (λ n. i < n) (sym (same_words c t h.0 has h.1)) low)));
    collect_past = λ j old le. refused s law (event.Collect j old) (λ h. omega (arith, h.0, le));
    collect_empty = λ j old is. refused s law (event.Collect j old) (λ h. not_loose old 0 is (λ e. omega (arith, e)) (λ e. omega (arith, e)) h.1);
    collect_taken = λ j old is. refused s law (event.Collect j old) (λ h. not_loose old 2 is (λ e. omega (arith, e)) (λ e. omega (arith, e)) h.1);
    collect_off_layout = λ j old none. refused s law (event.Collect j old) (λ h. false≢true (sym (ap is_loose none) ∙ h.1));
  }
