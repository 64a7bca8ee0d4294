-- What the book has written down of jobs, and how that changes.
use Rattle.std.specs.Prelude.{◌≡◌, ◌≢◌, ◌<◌, ℕ, zero, suc, ◌==◌, ◌&&◌, ◌||◌, Bool, false, not, cond, is_some, Option, Some, None, option_map, length, slice_index_or}
use Rattle.far_word.specs.declared.job.Job.{Job}
use Rattle.far_word.specs.declared.pointer.Place.{Place}
use Rattle.far_word.specs.declared.pointer.PtrWord.{PtrWord}
use Rattle.far_word.specs.declared.pointer.PtrWord.TheVariants.{Free, Near, Far}
use Rattle.far_word.specs.Pointer.{read_of}
use Rattle.far_word.specs.declared.sizes.TheConstants.{JOBS}
use Rattle.far_events.specs.events.Copied.{is_place}
use Rattle.far_events.specs.state.Jobs.{IsGood, job_at, near_place}
use Rattle.far_events.specs.state.State.{Copying, State}
use Rattle.far_book.specs.declared.jobs.Jobs.{Jobs}
use Rattle.far_book.specs.declared.jobs.Noted.{Noted}
use Rattle.far_book.specs.book.NumberSet.{has}

-- what is written down of a job
abbrev pub noted_at : Jobs → ℕ → Option Noted
noted_at jobs j = slice_index_or jobs.noted j None

-- the round of a job's offer lasts, and the source's log is in it still
abbrev pub is_good : ℕ → (ℕ → Bool) → (ℕ → ℕ) → ℕ → Job → Bool
is_good epoch round since j job = (since j == epoch) && round job.from.log

abbrev pub noted_of : Option Job → (Job → Bool) → Option Noted
noted_of None good = None
noted_of (Some job) good = Some record { job = job; good = good job }

-- what is written down are the jobs that aren't empty, each with its good
pub record NotesJobs (epoch : ℕ) (round : ℕ → Bool) (k : Copying) (jobs : Jobs) : Type 0 where
  pub sized : length jobs.noted ≡ JOBS
  pub noted : (j : ℕ) → noted_at jobs j ≡ noted_of (job_at k.word j) (is_good epoch round k.since j)
  pub waiting : (j : ℕ) → j < 64 → has jobs.waiting j ≡ is_some (job_at k.word j)

-- ---- what they say
-- a job that isn't empty copies from a log or to it
abbrev pub copies_at : ℕ → Option Noted → Bool
copies_at l None = false
copies_at l (Some noted) = (noted.job.from.log == l) || (noted.job.to.log == l)

-- a job is good, and copies a pointer's object from a place
abbrev pub copies_from : ℕ → Place → Option Noted → Bool
copies_from p at None = false
copies_from p at (Some noted) = noted.good && (noted.job.pointer == p) && is_place noted.job.from at

-- one of the first n jobs does
abbrev pub some_copies : State → ℕ → Place → ℕ → Bool
some_copies s p at zero = false
some_copies s p at (suc n) = some_copies s p at n || copies_from p at (noted_of (job_at s.copying.word n) (is_good s.round_epoch s.round s.copying.since n))

abbrev pub has_job_at : State → ℕ → Option Place → Bool
has_job_at s p None = false
has_job_at s p (Some at) = some_copies s p at JOBS

-- a job that isn't void copies p's object: a good one, from where it lies
abbrev pub has_job : State → ℕ → Bool
has_job s p = has_job_at s p (near_place (read_of (s.cell p)))

-- the same as a fact
pub record HasJob (s : State) (p : ℕ) : Type 0 where
  pub number : ℕ
  pub job : Job
  pub is : job_at s.copying.word number ≡ Some job
  pub pointer : job.pointer ≡ p
  pub good : IsGood s.round_epoch s.round s.copying.since number job
  pub lies : near_place (read_of (s.cell p)) ≡ Some job.from

-- ---- changes
-- one job is written down, or one less
pub record WritesJob (old new : Jobs) (j : ℕ) (now : Option Noted) : Type 0 where
  pub sized : length new.noted ≡ length old.noted
  pub here : noted_at new j ≡ now
  pub there : (i : ℕ) → i ≢ j → noted_at new i ≡ noted_at old i
  pub waiting : (i : ℕ) → i < 64 → has new.waiting i ≡ cond (i == j) (is_some now) (has old.waiting i)

-- the same job, which isn't good from then on if this ends it
abbrev pub ended : (Job → Bool) → Noted → Noted
ended ends noted = record noted { good = noted.good && not (ends noted.job) }

-- it copies from the log that a cell's object lies in
abbrev pub lies_in : Option PtrWord → Job → Bool
lies_in None job = false
lies_in (Some Free) job = false
lies_in (Some (Near len ds place m)) job = job.from.log == place.log
lies_in (Some (Far len ds m)) job = false

-- the rounds of these jobs' offers are over, or their logs have left them
pub record EndsJobs (ends : Job → Bool) (old new : Jobs) : Type 0 where
  pub sized : length new.noted ≡ length old.noted
  pub noted : (j : ℕ) → noted_at new j ≡ option_map (ended ends) (noted_at old j)
  pub waiting : new.waiting ≡ old.waiting
