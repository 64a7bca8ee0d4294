-- The jobs of the threads, and how they end.
use Rattle.std.specs.Prelude.{◌≡◌, ℕ, ◌+◌, ◌<◌, Result, Ok, IfErr, IfOk, List, [], ◌∷◌, ◌++◌, length, map, slice_index_or}
use Rattle.std.specs.List.{AllByRecursion}
use Rattle.far_heap.specs.HeapId.{HeapId}
use Rattle.far_heap.specs.Mine.{newcomer}
use Rattle.far_text.specs.Command.{Command}
use Rattle.far_text.specs.Threads.{OfMutator, OfBook, lines_in}
use Rattle.far_alone.specs.Own.{nothing}
use Rattle.far_reply.specs.Reply.{IsShort, Reply}
use Rattle.far_split.specs.BookTold.{BookTold}
use Rattle.far_split.specs.Here.{AloneOn}
use Rattle.far_split.specs.Joined.{SaysNo, commands_in}
use Rattle.far_split.specs.declared.gate.TheConstants.{THE_BOOK}
use Rattle.far_split.specs.declared.mutators.Stop.{Stop}
use Rattle.far_split.specs.declared.mutators.Stop.TheVariants as stops
use Rattle.far_split.specs.declared.split_out.SplitOut.{SplitOut}
use Rattle.far_split.specs.declared.split_out.SplitOut.TheVariants.{Refused as OutRefused, Ran as OutRan}
use Rattle.far_split.specs.declared.run.Job.{Job}
use Rattle.far_split.specs.declared.run.Job.TheVariants.{Mutator as MutatorJob, Book as BookJob}

-- a mutator's stands at its number, the book's behind them
abbrev pub IsJobAt : {K : Type 0} → HeapId → ℕ → Job K → Type 0
IsJobAt heap at (MutatorJob mutator number) = (number ≡ at) × (at < heap.mutators) × (mutator ≡ newcomer heap.table at heap.honest)
IsJobAt heap at BookJob = at ≡ heap.mutators

pub record AreJobs {K : Type 0} (heap : HeapId) (jobs : List (Job K)) : Type 0 where
  pub many : length jobs ≡ heap.mutators + 1
  pub each : (at : ℕ) (other : Job K) → at < length jobs → IsJobAt heap at (slice_index_or jobs at other)

-- replies to the lines of the thread at a place
pub record IsPart (heap : HeapId) (lines : List (ℕ × Command)) (at : ℕ) (replies : List Reply) : Type 0 where
  pub alone : at < heap.mutators → AloneOn heap at nothing (commands_in (OfMutator at) lines) replies
  pub told : at ≡ heap.mutators → BookTold heap (commands_in OfBook lines) replies
  pub short : AllByRecursion IsShort replies

-- it ended: with its replies, unless it was stopped
abbrev pub EndsSo : HeapId → List (ℕ × Command) → ℕ → Result (List Reply) Stop → Type 0
EndsSo heap lines at end = IfOk end (IsPart heap lines at)

pub record AreEnds (heap : HeapId) (lines : List (ℕ × Command)) (ends : List (Result (List Reply) Stop)) : Type 0 where
  pub many : length ends ≡ heap.mutators + 1
  pub each : (at : ℕ) (other : Result (List Reply) Stop) → at < length ends → EndsSo heap lines at (slice_index_or ends at other)

-- a thread with these lines was stopped so: by its gate, which says no to one of them; or memory was refused it
abbrev pub StopsBy : (ℕ → ℕ → Type 0) → ℕ → List (ℕ × Command) → Stop → Type 0
StopsBy refuses who lines stops.Gate = SaysNo refuses who lines
StopsBy refuses who lines stops.Memory = Unit {0}

-- what stopped the thread at a place
pub record IsStop (refuses : ℕ → ℕ → Type 0) (heap : HeapId) (lines : List (ℕ × Command)) (at : ℕ) (why : Stop) : Type 0 where
  pub alone : at < heap.mutators → StopsBy refuses at (lines_in (OfMutator at) lines) why
  pub told : at ≡ heap.mutators → StopsBy refuses THE_BOOK (lines_in OfBook lines) why

-- it ended: where it was stopped, so
abbrev pub StopsSo : (ℕ → ℕ → Type 0) → HeapId → List (ℕ × Command) → ℕ → Result (List Reply) Stop → Type 0
StopsSo refuses heap lines at end = IfErr end (IsStop refuses heap lines at)

abbrev pub AreStops : (ℕ → ℕ → Type 0) → HeapId → List (ℕ × Command) → List (Result (List Reply) Stop) → Type 0
AreStops refuses heap lines ends = (at : ℕ) (other : Result (List Reply) Stop) → at < length ends → StopsSo refuses heap lines at (slice_index_or ends at other)

-- these are all replies, the book's last
abbrev pub Joins : List (Result (List Reply) Stop) → SplitOut → Type 0
Joins ends (OutRefused why) = ⊥
Joins ends (OutRan mutators book) = ends ≡ map Ok (mutators.items ++ book ∷ [])
