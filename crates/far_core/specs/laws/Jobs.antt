-- What holds of jobs and copiers, in other words.
use Rattle.std.specs.Prelude.{◌≡◌, ◌≢◌, ℕ, ◌<◌, true, false, Some}
use Rattle.far_word.specs.declared.job.Job.{Job}
use Rattle.far_word.specs.declared.job.JobWord.TheVariants.{Taken, Finished}
use Rattle.far_word.specs.Job.{job_of}
use Rattle.far_word.specs.Pointer.{read_of}
use Rattle.far_events.specs.declared.event.Kind.TheVariants.{Free}
use Rattle.far_events.specs.declared.event.Task.{Task}
use Rattle.far_events.specs.state.Jobs.{job_at, job_words, near_place, source, target}
use Rattle.far_events.specs.state.State.{State}

-- no log that a job reads or writes is free, and no two jobs write at one place. No pointer is named to a job's target before the book has
-- written so down of the job. Until then both places of a finished job have the same words, as long as the round of its offer lasts and
-- the source's log is in it, whatever the owner has asked. A job that is taken is of one copier, which has no other
pub record JobsStand (s : State) : Type 0 where
  pub logs : (j : ℕ) (job : Job) → job_at s.copying.word j ≡ Some job → (s.kind job.from.log ≢ Free) × (s.kind job.to.log ≢ Free)
  pub apart : (i j : ℕ) (a b : Job) → job_at s.copying.word i ≡ Some a → job_at s.copying.word j ≡ Some b → a.to ≡ b.to → i ≡ j
  pub dead : (j : ℕ) (job : Job) → job_at s.copying.word j ≡ Some job → s.copying.named j ≡ false → (p : ℕ) → near_place (read_of (s.cell p)) ≢ Some job.to
  pub copied : (j c : ℕ) (job : Job) → job_of (s.copying.word j) ≡ Some (Finished job c) → s.copying.named j ≡ false → s.copying.since j ≡ s.epoch → s.round job.from.log ≡ true →
      (i : ℕ) → i < job_words s.word job → target s.word job i ≡ source s.word job i
  pub said : (c : ℕ) (t : Task) → s.copying.task c ≡ Some t → job_of (s.copying.word t.number) ≡ Some (Taken t.job c)
  pub taken : (j c : ℕ) (job : Job) → job_of (s.copying.word j) ≡ Some (Taken job c) → s.copying.task c ≡ Some (record { number = j; job = job })
  pub alone : (c d : ℕ) (t u : Task) → s.copying.task c ≡ Some t → s.copying.task d ≡ Some u → t.number ≡ u.number → c ≡ d
