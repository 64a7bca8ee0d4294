-- The job word: its layout, the one word of a job, and what a word says.
use Rattle.std.specs.Prelude.{ℕ, ◌+◌, ◌*◌, ◌/◌, ◌^◌, ◌<◌, ◌≤◌, Bool, ◌&&◌, ◌==◌, nat_lt, nat_le, Option, Some, None, if◌then◌else◌}
use Rattle.far_word.specs.declared.job.Job.{Job}
use Rattle.far_word.specs.declared.job.JobWord.{JobWord}
use Rattle.far_word.specs.declared.job.JobWord.TheVariants.{Empty, Offered, Taken, Finished}
use Rattle.far_word.specs.declared.pointer.Place.{Place}
use Rattle.far_word.specs.declared.sizes.TheConstants.{LAST_AT, MOST_COPIERS, MOST_LOGS, POINTERS}
use Rattle.far_word.specs.Mark.{field}

-- a place where a header may stand
abbrev pub IsJobPlace : Place → Type 0
IsJobPlace place = (place.log < MOST_LOGS) × (place.at ≤ LAST_AT)

-- a job that lies on the layout
pub record IsJob (k : Job) : Type 0 where
  pub cell : k.pointer < POINTERS
  pub from : IsJobPlace k.from
  pub to : IsJobPlace k.to

-- a job word that lies on the layout
abbrev pub IsJobWord : JobWord → Type 0
IsJobWord Empty = Unit {0}
IsJobWord (Offered k) = IsJob k
IsJobWord (Taken k c) = IsJob k × (c < MOST_COPIERS)
IsJobWord (Finished k c) = IsJob k × (c < MOST_COPIERS)

-- pointer, source, target, copier, stage
abbrev pub job_sum : Job → ℕ → ℕ → ℕ
job_sum k c stage = k.pointer + k.from.at * 2 ^ 16 + k.from.log * 2 ^ 26 + k.to.at * 2 ^ 34 + k.to.log * 2 ^ 44 + c * 2 ^ 58 + stage * 2 ^ 62

-- the one word of a job
abbrev pub job_word : JobWord → ℕ
job_word Empty = 0
job_word (Offered k) = job_sum k 0 1
job_word (Taken k c) = job_sum k c 2
job_word (Finished k c) = job_sum k c 3

-- the tests by which a word is read, in their order
abbrev pub job_in : ℕ → Job
job_in w = record { pointer = field w 0 16; from = record { log = field w 26 8; at = field w 16 10 }; to = record { log = field w 44 8; at = field w 34 10 } }

abbrev pub fits_place : Place → Bool
fits_place place = nat_lt place.log MOST_LOGS && nat_le place.at LAST_AT

abbrev pub fits_job : Job → Bool
fits_job k = nat_lt k.pointer POINTERS && fits_place k.from && fits_place k.to

abbrev pub names_job : ℕ → Bool
names_job w = fits_job (job_in w) && (field w 52 6 == 0)

abbrev pub copied_by : ℕ → ℕ → Option JobWord
copied_by w stage = if stage == 2 then Some (Taken (job_in w) (field w 58 4)) else (if stage == 3 then Some (Finished (job_in w) (field w 58 4)) else None)

abbrev pub staged : ℕ → ℕ → Option JobWord
staged w stage = if stage == 1 then (if field w 58 4 == 0 then Some (Offered (job_in w)) else None) else (if nat_lt (field w 58 4) MOST_COPIERS then copied_by w stage else None)

-- what a word says; None off the layout
unfoldable pub job_of : ℕ → Option JobWord
job_of w = if w == 0 then Some Empty else (if names_job w then staged w (w / 2 ^ 62) else None)
