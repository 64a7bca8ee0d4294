-- What may be found in a job's word, where one word of it is known: copiers may have gone on with the job meanwhile, and nothing else.
use Rattle.std.specs.Prelude.{◌≡◌, ◌⊎◌, ◌≤◌, ℕ, true, Option, Some, None, option_map}
use Rattle.far_word.specs.declared.job.Job.{Job}
use Rattle.far_word.specs.declared.job.JobWord.{JobWord}
use Rattle.far_word.specs.declared.job.JobWord.TheVariants.{Empty, Offered, Taken, Finished}
use Rattle.far_word.specs.Job.{job_of}
use Rattle.far_events.specs.state.Jobs.{is_finished}
use Rattle.far_events.specs.state.State.{State, put}

-- what a word says, but for how far its job has come: the job, if there is one
abbrev pub without_progress : JobWord → Option Job
without_progress Empty = None
without_progress (Offered job) = Some job
without_progress (Taken job c) = Some job
without_progress (Finished job c) = Some job

abbrev pub job_body : Option JobWord → Option (Option Job)
job_body = option_map without_progress

-- how far a job has come: it is offered, taken, finished
abbrev pub rank : Option JobWord → ℕ
rank None = 0
rank (Some Empty) = 0
rank (Some (Offered job)) = 1
rank (Some (Taken job c)) = 2
rank (Some (Finished job c)) = 3

-- the copier that has taken a job, finished or not
abbrev pub copier_in : Option JobWord → Option ℕ
copier_in None = None
copier_in (Some Empty) = None
copier_in (Some (Offered job)) = None
copier_in (Some (Taken job c)) = Some c
copier_in (Some (Finished job c)) = Some c

-- the same job, of the same pointer, from and to the same places; none exactly where none was known. It has come as far as was known, or farther; once a
-- copier has taken it, it is that copier's; and once it is finished, its word stays
pub record FindsJob (known found : ℕ) : Type 0 where
  pub body : job_body (job_of found) ≡ job_body (job_of known)
  pub rises : rank (job_of known) ≤ rank (job_of found)
  pub taker : (c : ℕ) → copier_in (job_of known) ≡ Some c → copier_in (job_of found) ≡ Some c
  pub ended : is_finished (job_of known) ≡ true → found ≡ known

-- what copiers may have made of a job whose word said so: no job, and a word that says nothing, stay. One that is offered may be so still, or a copier has taken it, or has
-- finished it too; one that a copier has taken is taken by that one, or finished by it; a finished one stays
abbrev pub GoesOn : Option JobWord → Option JobWord → Type 0
GoesOn None found = found ≡ None
GoesOn (Some Empty) found = found ≡ Some Empty
GoesOn (Some (Offered job)) found = (found ≡ Some (Offered job)) ⊎ ((c : ℕ) × ((found ≡ Some (Taken job c)) ⊎ (found ≡ Some (Finished job c))))
GoesOn (Some (Taken job c)) found = (found ≡ Some (Taken job c)) ⊎ (found ≡ Some (Finished job c))
GoesOn (Some (Finished job c)) found = found ≡ Some (Finished job c)

-- what is known once a word was found of a job
abbrev pub job_found : State → ℕ → ℕ → State
job_found s j word = record s { copying = record s.copying { word = put s.copying.word j word } }
