-- How a pointer comes to the copy that a job has made of its object, and what is refused on account of a job.
use Rattle.std.specs.Prelude.{◌≡◌, ◌≢◌, ◌⊎◌, ℕ, ◌<◌, true, false, Some}
use Rattle.far_word.specs.declared.job.Job.{Job}
use Rattle.far_word.specs.declared.job.JobWord.TheVariants.{Finished}
use Rattle.far_word.specs.declared.mark.Marks.{Marks}
use Rattle.far_word.specs.declared.pointer.Place.{Place}
use Rattle.far_word.specs.declared.pointer.PtrWord.TheVariants.{Near}
use Rattle.far_word.specs.Job.{job_of}
use Rattle.far_word.specs.Pointer.{read_of}
use Rattle.far_events.specs.declared.event.Event.{Event}
use Rattle.far_events.specs.declared.event.Event.TheVariants.{Get, Name, Offer}
use Rattle.far_events.specs.events.Step.{step_of}
use Rattle.far_core.specs.laws.Refusals.{IsRefused}
use Rattle.far_core.specs.laws.RefusedNamings.{IsElsewhere}
use Rattle.far_events.specs.state.Jobs.{is_finished, job_at, job_words, near_place, source, target}
use Rattle.far_events.specs.state.State.{State}

-- a job is void from the moment when another round begins than that in which it was offered, its source's log leaves the round, or its pointer
-- lies elsewhere
abbrev pub IsVoid : State → ℕ → Job → Type 0
IsVoid s j job = (s.copying.since j ≢ s.epoch) ⊎ ((s.round job.from.log ≡ false) ⊎ (near_place (read_of (s.cell job.pointer)) ≢ Some job.from))

-- a naming takes the copy that job j has made: the pointer is the job's, it lies at the source, and it comes to the target; the job is finished
-- and not void, and its pointer wasn't named to the target before; all words at both places are the same. Then the book notes it of this job
pub record TakesCopy (s : State) (p old new j : ℕ) (job : Job) : Type 0 where
  pub copier : ℕ
  pub own : p ≡ job.pointer
  pub found : s.cell p ≡ old
  pub lies : near_place (read_of old) ≡ Some job.from
  pub comes : near_place (read_of new) ≡ Some job.to
  pub finished : job_of (s.copying.word j) ≡ Some (Finished job copier)
  pub since : s.copying.since j ≡ s.epoch
  pub chosen : s.round job.from.log ≡ true
  pub before : s.copying.named j ≡ false
  pub same : (i : ℕ) → i < job_words s.word job → target s.word job i ≡ source s.word job i
  pub after : ((step_of s (Name p old new)).0.cell p ≡ new) × ((step_of s (Name p old new)).0.copying.named j ≡ true)

-- a pointer comes to a job's target by the naming alone that takes the copy that this job has made, whatever the event. By such a naming alone the
-- book comes to note of a job that its pointer was named to the target, and it does until another job is offered there. The round of which a job is changes by another offer
-- alone: so one that isn't void stays so until another round begins, its source's log leaves the round, or its pointer lies elsewhere
pub record CopiesAreTaken (s : State) : Type 0 where
  pub comes : (e : Event) (p j : ℕ) (job : Job) → job_at s.copying.word j ≡ Some job → near_place (read_of (s.cell p)) ≢ Some job.to →
      near_place (read_of ((step_of s e).0.cell p)) ≡ Some job.to → (old new : ℕ) × (e ≡ Name p old new) × TakesCopy s p old new j job
  pub noted : (e : Event) (j : ℕ) → s.copying.named j ≡ false → (step_of s e).0.copying.named j ≡ true →
      (old new : ℕ) × (job : Job) × (e ≡ Name job.pointer old new) × TakesCopy s job.pointer old new j job
  pub until : (e : Event) (j : ℕ) → s.copying.named j ≡ true → (step_of s e).0.copying.named j ≡ false → (p : ℕ) × (to : Place) × (e ≡ Offer j p to)
  pub dated : (e : Event) (j : ℕ) → (step_of s e).0.copying.since j ≢ s.copying.since j → (p : ℕ) × (to : Place) × (e ≡ Offer j p to)

-- to give back a log that a job reads or writes; to name a pointer to a job's target, which it isn't named to, where the job isn't finished, is
-- void, is another pointer's, or has had its pointer named so before
pub record TakingIsRefused (s : State) : Type 0 where
  pub free_source : (l at j : ℕ) (job : Job) → job_at s.copying.word j ≡ Some job → job.from.log ≡ l → IsRefused s (Get l at true)
  pub free_target : (l at j : ℕ) (job : Job) → job_at s.copying.word j ≡ Some job → job.to.log ≡ l → IsRefused s (Get l at true)
  pub unfinished : (p old new j len ds : ℕ) (job : Job) (k : Marks) → job_at s.copying.word j ≡ Some job → read_of new ≡ Some (Near len ds job.to k) → IsElsewhere old job.to →
      is_finished (job_of (s.copying.word j)) ≡ false → IsRefused s (Name p old new)
  pub void : (p old new j len ds : ℕ) (job : Job) (k : Marks) → job_at s.copying.word j ≡ Some job → read_of new ≡ Some (Near len ds job.to k) → IsElsewhere old job.to →
      IsVoid s j job → IsRefused s (Name p old new)
  pub others : (p old new j len ds : ℕ) (job : Job) (k : Marks) → job_at s.copying.word j ≡ Some job → read_of new ≡ Some (Near len ds job.to k) → IsElsewhere old job.to →
      p ≢ job.pointer → IsRefused s (Name p old new)
  pub again : (p old new j len ds : ℕ) (job : Job) (k : Marks) → job_at s.copying.word j ≡ Some job → read_of new ≡ Some (Near len ds job.to k) → IsElsewhere old job.to →
      s.copying.named j ≡ true → IsRefused s (Name p old new)
