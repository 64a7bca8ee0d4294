-- Jobs are taken back: a round stands as it stood, and no job is held that wasn't.
use Rattle.std.proofs.Common.{◌≡◌, ℕ, zero, suc, Bool, true, false, Option, Some, None, ap, sym, refl, ◌∙◌, subst}
use Rattle.std.proofs.lemmas.Bool.{false≢true}
use Rattle.far_word.specs.declared.job.Job.{Job}
use Rattle.far_word.specs.declared.job.JobWord.{JobWord}
use Rattle.far_word.specs.declared.job.JobWord.TheVariants.{Empty, Offered, Taken, Finished}
use Rattle.far_word.specs.declared.sizes.TheConstants.{JOBS}
use Rattle.far_word.specs.Job.{job_of}
use Rattle.far_word.specs.Pointer.{read_of}
use Rattle.far_events.specs.state.Jobs.{job_at, job_said, near_place}
use Rattle.far_events.specs.state.State.{State, put}
use Rattle.far_events.proofs.JobPlaces.{unworded}
use Rattle.far_events.proofs.Put.{put_both}
use Rattle.far_hand.specs.FindsJob.{FindsJob}
use Rattle.far_hand.proofs.JobsFound.{same_job}
use Rattle.far_book.specs.book.Collecting.{BackKnown, TakesBack, taken_back}
use Rattle.far_evac.specs.declared.round.Round.{Round}
use Rattle.far_evac.specs.Standing.{IsSound}
use Rattle.far_evac.specs.StillCopies.{StillCopies}
use Rattle.far_evac.proofs.Keeping.{round_jobs}

-- jobs' words alone change, and a job that isn't empty was the same before
pub record TakesLess (s t : State) : Type 0 where
  pub rest : t ≡ record s { copying = record s.copying { word = t.copying.word } }
  pub jobs : (j : ℕ) (job : Job) → job_at t.copying.word j ≡ Some job → job_at s.copying.word j ≡ Some job

less_none : (s : State) → TakesLess s s
less_none s = record { rest = refl; jobs = λ j job is. is }

less_more : (s t u : State) → TakesLess s t → TakesLess t u → TakesLess s u
less_more s t u f g = record {
  rest = g.rest ∙ ap (λ (x : State). record x { copying = record x.copying { word = u.copying.word } }) f.rest;
  jobs = λ j job is. f.jobs j job (g.jobs j job is);
}

-- ---- one job: a word was found of it, or it is empty
module _ (s : State) (j : ℕ) where
  abbrev with_word : (ℕ → ℕ) → State
  with_word words = record s { copying = record s.copying { word = words } }

  abbrev Lesser : (ℕ → ℕ) → Type 0
  Lesser words = (i : ℕ) (job : Job) → job_at words i ≡ Some job → job_at s.copying.word i ≡ Some job

  put_found : (words : ℕ → ℕ) (word : ℕ) → Lesser words → ((job : Job) → job_said (job_of word) ≡ Some job → job_at s.copying.word j ≡ Some job) → Lesser (put words j word)
  put_found words word less here i job = put_both (λ w. job_said (job_of w) ≡ Some job → job_at s.copying.word i ≡ Some job) words j word i
      (λ e is. subst (λ k. job_at s.copying.word k ≡ Some job) (sym e) (here job is)) (λ _ is. less i job is)

  no_job : (job : Job) → job_said (job_of 0) ≡ Some job → job_at s.copying.word j ≡ Some job
  no_job job is = let odd : None ≡ Some job = sym (ap job_said unworded) ∙ is in absurd cc

  module _ (word : ℕ) (finds : FindsJob (s.copying.word j) word) where
    found : Lesser (put s.copying.word j word)
    found = put_found s.copying.word word (λ i job is. is) (λ job is. sym (same_job (s.copying.word j) word finds) ∙ is)

    stays : TakesLess s (with_word (put s.copying.word j word))
    stays = record { rest = refl; jobs = found }

    goes : TakesLess s (with_word (put (put s.copying.word j word) j 0))
    goes = record { rest = refl; jobs = put_found (put s.copying.word j word) 0 found no_job }

    by_word : (o : Option JobWord) → TakesLess s (taken_back s j word o)
    by_word None = stays
    by_word (Some Empty) = stays
    by_word (Some (Offered job)) = goes
    by_word (Some (Taken job c)) = stays
    by_word (Some (Finished job c)) = stays

  one_less : (t : State) (o : Option Job) → BackKnown s t j o → TakesLess s t
  one_less t None is = subst (TakesLess s) (sym is) (less_none s)
  one_less t (Some job) h = subst (TakesLess s) (sym h.is) (by_word h.word h.finds (job_of h.word))

pub takes_less : (s : State) (n : ℕ) (t : State) → TakesBack s n t → TakesLess s t
takes_less s zero t is = subst (TakesLess s) (sym is) (less_none s)
takes_less s (suc n) t (u, first, one) = less_more s u t (takes_less s n u first) (one_less u n t (job_at u.copying.word n) one)

pub taken_rest : (s : State) (n : ℕ) (t : State) → TakesBack s n t → t ≡ record s { copying = t.copying }
taken_rest s n t takes = let rest = (takes_less s n t takes).rest in rest ∙ ap (λ k. record s { copying = k }) (sym (ap (λ (x : State). x.copying) rest))

-- ---- the round stands, and each job that isn't void is held
module _ {still : Type 0} (s t : State) {copying : Bool} (r : Round) (sound : IsSound still s copying r) (copies : copying ≡ true) (takes : TakesBack s JOBS t) where
  less : TakesLess s t
  less = takes_less s JOBS t takes

  was : (j : ℕ) (job : Job) → StillCopies t j job → StillCopies s j job
  was j job h = record {
    says = less.jobs j job h.says;
    good = (sym (ap (λ (x : State). x.copying.since j) less.rest) ∙ h.good.0 ∙ ap (λ (x : State). x.round_epoch) less.rest, sym (ap (λ (x : State). x.round job.from.log) less.rest) ∙ h.good.1);
    lies = sym (ap (λ (x : State). near_place (read_of (x.cell job.pointer))) less.rest) ∙ h.lies;
  }

  pub sound_taken : IsSound still t copying r
  sound_taken = record {
    round = round_jobs s t r sound.round less.rest;
    jobs = record { alone = λ odd. absurd (false≢true (sym odd ∙ copies)); held = λ j job h. sound.jobs.held j job (was j job h) };
    exact = sound.exact;
  }
