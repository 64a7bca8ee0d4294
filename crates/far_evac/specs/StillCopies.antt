-- Which jobs aren't void.
use Rattle.std.specs.Prelude.{◌≡◌, ℕ, Some}
use Rattle.far_word.specs.declared.job.Job.{Job}
use Rattle.far_word.specs.Pointer.{read_of}
use Rattle.far_events.specs.state.Jobs.{IsGood, job_at, near_place}
use Rattle.far_events.specs.state.State.{State}

-- a job isn't empty, the round of its offer lasts, its source's log is in it still, and its pointer's cell names the source
pub record StillCopies (s : State) (j : ℕ) (job : Job) : Type 0 where
  pub says : job_at s.copying.word j ≡ Some job
  pub good : IsGood s.round_epoch s.round s.copying.since j job
  pub lies : near_place (read_of (s.cell job.pointer)) ≡ Some job.from
