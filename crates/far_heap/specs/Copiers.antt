-- Copiers of a heap, and what they do.
use Rattle.std.specs.Prelude.{◌≡◌, ◌+◌, ℕ, zero, suc, Bool, ◌&&◌, nat_lt, nat_le, None, List, [], ◌∷◌, length}
use Rattle.atomic_table.specs.Seated.{TableId}
use Rattle.far_word.specs.declared.sizes.TheConstants.{MOST_COPIERS}
use Rattle.far_events.specs.declared.event.Event.TheVariants.{Finish}
use Rattle.far_events.specs.declared.event.Reply.TheVariants.{Done}
use Rattle.far_table.specs.CopierViews.{finished_view}
use Rattle.far_table.specs.CopySeats.{CopiedNext, CopyJob, IsCopied, IsJobOf, copied_on}
use Rattle.far_table.specs.Seats.{CopierSeated}
use Rattle.far_table.specs.Tells.{CopierMade}
use Rattle.far_table.specs.View.{CopierView}
use Rattle.far_heap.specs.HeapId.{HeapId}

-- a heap with copiers has 1 to 8
abbrev pub is_many : ℕ → Bool
is_many n = nat_lt 0 n && nat_le n MOST_COPIERS

-- this is a copier of that heap, which has no job
abbrev pub IsFree : HeapId → CopierSeated → Type 0
IsFree heap c = (c.table ≡ heap.table) × (c.view.task ≡ None)

-- these are seats of a table, of copiers by number from one on, who have no job
abbrev pub AreFree : TableId → ℕ → List CopierSeated → Type 0
AreFree table first [] = Unit {0}
AreFree table first (x ∷ xs) = (x.table ≡ table) × (x.view.number ≡ first) × (x.view.task ≡ None) × AreFree table (first + 1) xs

-- all eight of a whole heap
pub record NewCopiers (heap : HeapId) (seats : List CopierSeated) : Type 0 where
  pub many : length seats ≡ MOST_COPIERS
  pub are : AreFree heap.table 0 seats

-- a copier that has a job: its seat, and the job
pub record CopyingOf : Type 0 where
  pub seat : CopierSeated
  pub job : CopyJob

-- it is a copier of this heap, and the job is its own
abbrev pub IsAtWork : HeapId → CopyingOf → Type 0
IsAtWork heap c = (c.seat.table ≡ heap.table) × IsJobOf c.job c.seat.view

-- so many words more of a job are copied
abbrev pub copied_by : ℕ → CopyJob → CopyJob
copied_by zero job = job
copied_by (suc n) job = copied_on (copied_by n job)

-- from one view to another they were, one after the other
abbrev pub CopiedOn : ℕ → CopyJob → CopierView → CopierView → Type 0
CopiedOn zero job v w = w ≡ v
CopiedOn (suc n) job v w = (u : CopierView) × CopiedOn n job v u × CopiedNext (copied_by n job) u w

-- the words that were left of a job were copied; then the job was said to be done, and the copier has none
pub record Finishes (old : CopyingOf) (new : CopierSeated) : Type 0 where
  pub table : new.table ≡ old.seat.table
  pub left : ℕ
  pub whole : CopierView
  pub copied : CopiedOn left old.job old.seat.view whole
  pub all : IsCopied (copied_by left old.job)
  pub view : new.view ≡ finished_view whole
  pub event : CopierMade (Finish whole.number) whole Done new.view
