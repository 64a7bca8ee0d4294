-- What a job's word says without its copier.
use Rattle.std.proofs.Common.{◌≡◌, ◌≢◌, ℕ, ◌^◌, ◌<◌, ◌∙◌, Bool, ap, refl, sym, subst, Option, Some, None}
use Rattle.std.specs.Prelude.{IsSome}
use Rattle.far_word.specs.declared.job.Job.{Job}
use Rattle.far_word.specs.declared.job.JobWord.{JobWord}
use Rattle.far_word.specs.declared.job.JobWord.TheVariants.{Empty, Offered, Taken, Finished}
use Rattle.far_word.specs.declared.pointer.Place.{Place}
use Rattle.far_word.specs.Job.{job_of, job_word}
use Rattle.far_word.proofs.JobLaws.{job_back, job_fits, job_says}
use Rattle.far_events.specs.events.Get.{IsUncopied}
use Rattle.far_events.specs.state.Jobs.{AimLaw, GoodLaw, JobLaw, TakenLaw, is_finished, job_at, job_said}
use Rattle.far_events.specs.state.State.{Copying}
use Rattle.far_events.proofs.Copied.{NoCopy}
use Rattle.far_events.proofs.JobPlaces.{unworded}
use Rattle.far_book.specs.book.Own.{unread, untaken, untaken_of}

-- what it says
abbrev pub loosed : Option JobWord → Option JobWord
loosed None = None
loosed (Some Empty) = Some Empty
loosed (Some (Offered job)) = Some (Offered job)
loosed (Some (Taken job c)) = Some (Offered job)
loosed (Some (Finished job c)) = Some (Finished job c)

says_of : (w : ℕ) (o : Option JobWord) → job_of w ≡ o → job_of (untaken_of w o) ≡ loosed o
says_of w None e = e
says_of w (Some Empty) e = e
says_of w (Some (Offered job)) e = e
says_of w (Some (Taken job c)) e = job_back (Offered job) (job_says w (Taken job c) e).0.0
says_of w (Some (Finished job c)) e = e

pub untaken_says : (w : ℕ) → job_of (untaken w) ≡ loosed (job_of w)
untaken_says w = says_of w (job_of w) refl

loosed_said : (o : Option JobWord) → job_said (loosed o) ≡ job_said o
loosed_said None = refl
loosed_said (Some Empty) = refl
loosed_said (Some (Offered job)) = refl
loosed_said (Some (Taken job c)) = refl
loosed_said (Some (Finished job c)) = refl

loosed_finished : (o : Option JobWord) → is_finished (loosed o) ≡ is_finished o
loosed_finished None = refl
loosed_finished (Some Empty) = refl
loosed_finished (Some (Offered job)) = refl
loosed_finished (Some (Taken job c)) = refl
loosed_finished (Some (Finished job c)) = refl

pub untaken_said : (w : ℕ) → job_said (job_of (untaken w)) ≡ job_said (job_of w)
untaken_said w = ap job_said (untaken_says w) ∙ loosed_said (job_of w)

pub untaken_finished : (w : ℕ) → is_finished (job_of (untaken w)) ≡ is_finished (job_of w)
untaken_finished w = ap is_finished (untaken_says w) ∙ loosed_finished (job_of w)

pub some_loosed : (o : Option JobWord) → IsSome o → IsSome (loosed o)
some_loosed None h = h
some_loosed (Some Empty) h = refl
some_loosed (Some (Offered job)) h = refl
some_loosed (Some (Taken job c)) h = refl
some_loosed (Some (Finished job c)) h = refl

-- no copier has it
not_taken : (o : Option JobWord) (job : Job) (c : ℕ) → loosed o ≢ Some (Taken job c)
not_taken None job c e = absurd cc
not_taken (Some Empty) job c e = absurd cc
not_taken (Some (Offered k)) job c e = absurd cc
not_taken (Some (Taken k d)) job c e = absurd cc
not_taken (Some (Finished k d)) job c e = absurd cc

pub untaken_loose : (w : ℕ) (job : Job) (c : ℕ) → job_of (untaken w) ≢ Some (Taken job c)
untaken_loose w job c e = not_taken (job_of w) job c (sym (untaken_says w) ∙ e)

-- it is finished exactly where the word says so
finished_by : (o : Option JobWord) (job : Job) (c : ℕ) → loosed o ≡ Some (Finished job c) → o ≡ Some (Finished job c)
finished_by None job c e = absurd cc
finished_by (Some Empty) job c e = absurd cc
finished_by (Some (Offered k)) job c e = absurd cc
finished_by (Some (Taken k d)) job c e = absurd cc
finished_by (Some (Finished k d)) job c e = e

pub finished_known : (w : ℕ) (job : Job) (c : ℕ) → job_of (untaken w) ≡ Some (Finished job c) → job_of w ≡ Some (Finished job c)
finished_known w job c e = finished_by (job_of w) job c (sym (untaken_says w) ∙ e)

pub finished_kept : (w : ℕ) (job : Job) (c : ℕ) → job_of w ≡ Some (Finished job c) → untaken w ≡ w
finished_kept w job c e = ap (untaken_of w) e

pub offered_kept : (w : ℕ) (job : Job) → job_of w ≡ Some (Offered job) → untaken w ≡ w
offered_kept w job e = ap (untaken_of w) e

pub empty_kept : untaken 0 ≡ 0
empty_kept = ap (untaken_of 0) unworded

-- ---- it is a word, and stands for itself
fits_of : (w : ℕ) (o : Option JobWord) → job_of w ≡ o → w < 2 ^ 64 → untaken_of w o < 2 ^ 64
fits_of w None e fits = fits
fits_of w (Some Empty) e fits = fits
fits_of w (Some (Offered job)) e fits = fits
fits_of w (Some (Taken job c)) e fits = job_fits (Offered job) (job_says w (Taken job c) e).0.0
fits_of w (Some (Finished job c)) e fits = fits

pub untaken_fits : (w : ℕ) → w < 2 ^ 64 → untaken w < 2 ^ 64
untaken_fits w fits = fits_of w (job_of w) refl fits

twice_of : (w : ℕ) (o : Option JobWord) → job_of w ≡ o → untaken (untaken_of w o) ≡ untaken_of w o
twice_of w None e = ap (untaken_of w) e
twice_of w (Some Empty) e = ap (untaken_of w) e
twice_of w (Some (Offered job)) e = ap (untaken_of w) e
twice_of w (Some (Taken job c)) e = offered_kept (job_word (Offered job)) job (job_back (Offered job) (job_says w (Taken job c) e).0.0)
twice_of w (Some (Finished job c)) e = ap (untaken_of w) e

pub untaken_twice : (w : ℕ) → untaken (untaken w) ≡ untaken w
untaken_twice w = twice_of w (job_of w) refl

pub unread_twice : (k : Copying) → unread (unread k) ≡ unread k
unread_twice k = λ i. record (unread k) { word = λ j. untaken_twice (k.word j) i }

-- a word without a job is 0, and it alone
pub untaken_zero : (w : ℕ) → untaken w ≡ 0 → w ≡ 0
untaken_zero w e = zero_by (job_of w) refl where
  zero_by : (o : Option JobWord) → job_of w ≡ o → w ≡ 0
  zero_by None is = sym (ap (untaken_of w) is) ∙ e
  zero_by (Some Empty) is = sym (ap (untaken_of w) is) ∙ e
  zero_by (Some (Offered job)) is = sym (ap (untaken_of w) is) ∙ e
  zero_by (Some (Taken job c)) is = let odd : Some Empty ≡ Some (Offered job) = sym unworded ∙ sym (ap job_of e) ∙ untaken_says w ∙ ap loosed is in absurd cc
  zero_by (Some (Finished job c)) is = sym (ap (untaken_of w) is) ∙ e

-- ---- of all jobs
module _ (k : Copying) where
  pub same_jobs : (j : ℕ) → job_at (unread k).word j ≡ job_at k.word j
  same_jobs j = untaken_said (k.word j)

  pub uncopied_own : (l : ℕ) → IsUncopied k l → IsUncopied (unread k) l
  uncopied_own l h j job e = h j job (sym (same_jobs j) ∙ e)

  pub no_copy_all : (p : ℕ) (from to : Place) → NoCopy (unread k) p from to → NoCopy k p from to
  no_copy_all p from to h j c e = h j c (ap job_of (finished_kept (k.word j) _ c e) ∙ e)

  -- the law of jobs, without their copiers
  pub untaken_jobs : (word : ℕ → ℕ) (starts : ℕ → Bool) → JobLaw word starts k.word k.named → JobLaw word starts (unread k).word k.named
  untaken_jobs word starts law = record {
    job_read = λ j. (untaken_fits (k.word j) (law.job_read j).0, subst IsSome (sym (untaken_says (k.word j))) (some_loosed (job_of (k.word j)) (law.job_read j).1));
    job_range = λ j ne. law.job_range j (λ e. ne (ap untaken e ∙ empty_kept));
    job_spans = λ j job e. law.job_spans j job (sym (same_jobs j) ∙ e);
    targets_differ = λ i j a b e f. law.targets_differ i j a b (sym (same_jobs i) ∙ e) (sym (same_jobs j) ∙ f);
    target_no_source = λ i j a b e f. law.target_no_source i j a b (sym (same_jobs i) ∙ e) (sym (same_jobs j) ∙ f);
    unfinished_unnamed = λ j job e undone. law.unfinished_unnamed j job (sym (same_jobs j) ∙ e) (sym (untaken_finished (k.word j)) ∙ undone);
  }

  pub untaken_aims : (cell : ℕ → ℕ) → AimLaw cell k.word k.named → AimLaw cell (unread k).word k.named
  untaken_aims cell law = record { unnamed = λ j job e. law.unnamed j job (sym (same_jobs j) ∙ e); left = λ j job e. law.left j job (sym (same_jobs j) ∙ e) }

  pub untaken_good : (epoch : ℕ) (round clear : ℕ → Bool) → GoodLaw epoch round clear k.word k.since → GoodLaw epoch round clear (unread k).word k.since
  untaken_good epoch round clear law =
      record { begun = law.begun; seen = λ j job e. law.seen j job (sym (same_jobs j) ∙ e); outside = λ j job e. law.outside j job (sym (same_jobs j) ∙ e) }

  pub none_taken : (word : ℕ → ℕ) → TakenLaw word (unread k).word (unread k).task (unread k).length (unread k).read
  none_taken word = record {
    taken_by = λ j c job e. absurd (untaken_loose (k.word j) job c e);
    takes = λ c t e. absurd cc;
    long = λ c n t e l. absurd cc;
    fits = λ c i w t e r. absurd cc;
  }
