-- What a copier's calls ask of its seat's view.
use Rattle.std.specs.Prelude.{◌≡◌, ℕ, Option, Some, None, List, length, map}
use Rattle.std.specs.List.{range_with_len}
use Rattle.atomic_table.specs.Seated.{TableId}
use Rattle.far_events.specs.state.State.{State}
use Rattle.far_table.specs.View.{CopierView}
use Rattle.far_table.specs.CopySeats.{CopyJob, IsJobOf}
use Rattle.far_table.specs.First.{first_copier}
use Rattle.far_table.specs.Seats.{CopierSeated}

-- where no job is kept, the view has none
abbrev pub IsIdle : CopierView → Option CopyJob → Type 0
IsIdle v kept = kept ≡ None → v.task ≡ None

-- and a job that is kept is the view's
abbrev pub IsMine : CopierView → Option CopyJob → Type 0
IsMine v kept = (job : CopyJob) → kept ≡ Some job → IsJobOf job v

-- the seats of the first copiers of a core in which no copier has a job
pub record AllIdle (seats : List CopierSeated) : Type 0 where
  pub core : State
  pub table : TableId
  pub seats_are : seats ≡ map (λ c. record { table = table; view = first_copier core c }) (range_with_len 0 (length seats))
  pub idle : (c : ℕ) → core.copying.task c ≡ None
