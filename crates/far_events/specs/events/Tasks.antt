-- What the events of a copier that has a job look at.
use Rattle.std.specs.Prelude.{◌≡◌, ◌<◌, ◌&&◌, ℕ, Bool, true, false, nat_lt, suc, zero, Option, Some, None}
use Rattle.far_events.specs.declared.event.Task.{Task}
use Rattle.far_events.specs.state.Jobs.{job_words}
use Rattle.far_events.specs.state.State.{State}

abbrev pub HasTask : State → ℕ → Task → Type 0
HasTask s c t = s.copying.task c ≡ Some t

-- the first n words are written
abbrev pub all_written : (ℕ → Bool) → ℕ → Bool
all_written written zero = true
all_written written (suc n) = all_written written n && written n

abbrev pub AllWritten : (ℕ → Bool) → ℕ → Type 0
AllWritten written n = (i : ℕ) → i < n → written i ≡ true

-- a number of a data word of a task
abbrev pub is_task_word : State → Option Task → ℕ → Bool
is_task_word s None i = false
is_task_word s (Some t) i = nat_lt i (job_words s.word t.job)

abbrev pub task_written : State → ℕ → Option Task → Bool
task_written s c None = false
task_written s c (Some t) = all_written (s.copying.written c) (job_words s.word t.job)
