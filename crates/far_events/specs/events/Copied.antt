-- What a finished job has copied, where its pointer may be named to the copy.
use Rattle.std.specs.Prelude.{◌≡◌, ◌==◌, ◌&&◌, ◌<◌, ℕ, Bool, true, false, cond, suc, zero, Option, Some, None}
use Rattle.far_word.specs.declared.job.JobWord.{JobWord}
use Rattle.far_word.specs.declared.job.JobWord.TheVariants.{Empty, Offered, Taken, Finished}
use Rattle.far_word.specs.declared.pointer.Place.{Place}
use Rattle.far_word.specs.declared.sizes.TheConstants.{JOBS}
use Rattle.far_word.specs.Job.{job_of}
use Rattle.far_word.specs.Pointer.{read_of}
use Rattle.far_events.specs.state.Jobs.{IsGood, near_place}
use Rattle.far_events.specs.state.Spans.{names_place}
use Rattle.far_events.specs.state.State.{State, put}

-- job j is finished, and copied the pointer's object from where it lies still; the round in which it was offered lasts, and the source's log is
-- in it still
pub record IsCopied (s : State) (p : ℕ) (from to : Place) (j c : ℕ) : Type 0 where
  pub low : j < JOBS
  pub lies : near_place (read_of (s.cell p)) ≡ Some from
  pub finished : job_of (s.copying.word j) ≡ Some (Finished (record { pointer = p; from = from; to = to }) c)
  pub good : IsGood s.round_epoch s.round s.copying.since j (record { pointer = p; from = from; to = to })

-- some job did
abbrev pub WasCopied : State → ℕ → Place → Place → Type 0
WasCopied s p from to = (j c : ℕ) × IsCopied s p from to j c

-- the same as tests
abbrev pub is_place : Place → Place → Bool
is_place x y = (x.log == y.log) && (x.at == y.at)

abbrev pub says_copied : ℕ → Place → Place → Option JobWord → Bool
says_copied p from to None = false
says_copied p from to (Some Empty) = false
says_copied p from to (Some (Offered job)) = false
says_copied p from to (Some (Taken job c)) = false
says_copied p from to (Some (Finished job c)) = (job.pointer == p) && is_place job.from from && is_place job.to to

abbrev pub has_copied : State → ℕ → Place → Place → ℕ → Bool
has_copied s p from to j = says_copied p from to (job_of (s.copying.word j)) && (s.copying.since j == s.round_epoch) && s.round from.log

-- the last such job below n
abbrev pub copied_below : State → ℕ → Place → Place → ℕ → Option ℕ
copied_below s p from to zero = None
copied_below s p from to (suc n) = cond (has_copied s p from to n) (Some n) (copied_below s p from to n)

abbrev pub copied_job : State → ℕ → Place → Place → Option ℕ
copied_job s p from to = cond (names_place (read_of (s.cell p)) from.log from.at) (copied_below s p from to JOBS) None

-- the cell is the new word, and the job's pointer is named to its target from then on
abbrev pub with_named : State → ℕ → ℕ → ℕ → State
with_named s p new j = record s { cell = put s.cell p new; copying = record s.copying { named = put s.copying.named j true } }
