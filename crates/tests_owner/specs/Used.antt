-- What a core says of the objects that an owner uses, and of the jobs that copiers have taken.
use Rattle.std.specs.Prelude.{ℕ, Bool, true, false, cond, Option, Some, None}
use Rattle.far_word.specs.declared.job.JobWord.{JobWord}
use Rattle.far_word.specs.declared.job.JobWord.TheVariants.{Empty, Offered, Taken, Finished}
use Rattle.far_word.specs.Pointer.{read_of}
use Rattle.far_events.specs.state.State.{State}
use Rattle.far_table.specs.Views.{said_len}

-- the length of a pointer's object, if it is used
abbrev pub used_len : State → ℕ → Option ℕ
used_len s p = cond (s.used p) (Some (said_len (read_of (s.cell p)))) None

-- a copier has the job
abbrev pub is_taken : Option JobWord → Bool
is_taken None = false
is_taken (Some Empty) = false
is_taken (Some (Offered job)) = false
is_taken (Some (Taken job c)) = true
is_taken (Some (Finished job c)) = false
