-- What the book's lines are told: one reply to each, by what was so of the heap's book while its lock was held.
use Rattle.std.specs.Prelude.{◌≡◌, ◌≢◌, ◌⊎◌, ℕ, ◌+◌, ◌<◌, ◌≤◌, Bool, true, false, List, [], ◌∷◌, filter, length, map, sum, take, Result, Ok}
use Rattle.std.specs.List.{AllByRecursion, range_with_len}
use Rattle.far_word.specs.declared.refused.Refused.{Refused as Refusal}
use Rattle.far_word.specs.declared.refused.Refused.TheVariants.{Device, Memory, Range}
use Rattle.far_word.specs.declared.sizes.TheConstants.{LOG_BYTES}
use Rattle.far_log.specs.declared.row.LogRow.{LogRow}
use Rattle.far_policy.specs.LeastLive.{TakesLeast}
use Rattle.far_policy.specs.Logs.{logs_of}
use Rattle.far_table.specs.declared.book.BookSeat.{BookSeat}
use Rattle.far_table.specs.BookSeats.{seat_view}
use Rattle.far_book.specs.declared.home.Home.{Home}
use Rattle.far_book.specs.declared.home.Home.TheVariants.{Near, Far}
use Rattle.far_evac.specs.declared.answers.Progress.{Progress}
use Rattle.far_evac.specs.declared.answers.RoundEnd.{RoundEnd}
use Rattle.far_evac.specs.declared.census.Housed.{Housed}
use Rattle.far_evac.specs.declared.census.LogState.{LogState}
use Rattle.far_evac.specs.EvacOf.{EvacOf, moment}
use Rattle.far_evac.specs.Listing.{ListsEach}
use Rattle.far_evac.specs.Moment.{Moment, nothing, progress_of}
use Rattle.far_evac.specs.MomentLaw.{IsLawful}
use Rattle.far_heap.specs.HeapId.{HeapId, heap_of}
use Rattle.far_heap.specs.Rounds.{Chose, EndsAfter, RefusesRound}
use Rattle.far_text.specs.Command.{Command, Book, Evacuator, Logs as AsksLogs, Log as AsksLog, Audit as AsksAudit, Policy, LeastLive, Oldest, Round}
use Rattle.far_reply.specs.declared.reply.Counts.{Counts}
use Rattle.far_reply.specs.declared.reply.LogLine.{LogLine}
use Rattle.far_reply.specs.Reply.{Reply, Audited, Ended, Halted, Logs, Refused}
use Rattle.far_replay.specs.Turn.{log_line}
use Rattle.far_split.specs.FarSides.{FarLetsGo, FarSide, FarWrites, far_bytes}

-- at some moment, while the lock was held, this was so of the heap's book. It was lawful then
pub record BookStood (heap : HeapId) (P : Moment → Type 0) : Type 0 where
  pub book : EvacOf (BookSeat FarSide) FarSide
  pub named : heap_of book.copying book.book.near ≡ heap
  pub lawful : IsLawful (moment seat_view book)
  pub is : P (moment seat_view book)

-- ---- logs
-- the three numbers make a log's bytes
abbrev pub MakesLog : LogLine → Type 0
MakesLog line = line.live + line.dead + line.unused ≡ LOG_BYTES

-- a line for each of these logs, in order, all of one moment
pub record TellsLogs (heap : HeapId) (logs : List ℕ) (lines : List LogLine) : Type 0 where
  pub stood : BookStood heap (λ now. lines ≡ map (log_line now) logs)
  pub whole : AllByRecursion MakesLog lines

-- so many logs from one on are told
abbrev pub TellsRange : HeapId → ℕ → ℕ → Reply → Type 0
TellsRange heap first many (Logs lines) = TellsLogs heap (range_with_len first many) lines
TellsRange heap first many _ = ⊥

-- ---- an audit
abbrev pub lies_near : Home → Bool
lies_near (Near place marks) = true
lies_near (Far marks) = false

abbrev pub lies_far : Home → Bool
lies_far (Near place marks) = false
lies_far (Far marks) = true

-- the bytes of all logs that objects in use take
abbrev pub live_in : List LogState → ℕ
live_in logs = sum (map (λ (log : LogState). log.row.live) logs)

-- how many objects a census lists that are near, how many that are far, and the bytes that objects take in its logs
abbrev pub counted : List Housed → List LogState → Counts
counted homes logs = record {
  near = length (filter (λ (housed : Housed). lies_near housed.home) homes);
  far = length (filter (λ (housed : Housed). lies_far housed.home) homes);
  live = live_in logs;
}

-- they are those of one census
abbrev pub TellsCensus : HeapId → Counts → Type 0
TellsCensus heap counts = BookStood heap (λ now. (homes : List Housed) × (logs : List LogState) × ListsEach now homes logs × (counts ≡ counted homes logs))

-- ---- a round
-- what a policy gives of rows, at most so many: logs. It refuses nothing
abbrev pub Gives : Policy → Unit {0} → List LogRow → ℕ → Result (List ℕ) Refusal → Unit {0} → Type 0
Gives Oldest before rows most outcome after = outcome ≡ Ok (take most (logs_of rows))
Gives LeastLive before rows most outcome after = (taken : List LogRow) × TakesLeast rows most taken × (outcome ≡ Ok (logs_of taken))

-- a round of the logs that the policy chose ended so
abbrev pub EndsRound : HeapId → Policy → ℕ → ℕ → RoundEnd → Type 0
EndsRound heap policy most turns end = (logs : List ℕ) × Chose (Gives policy) FarSide heap tt most tt logs × EndsAfter FarWrites FarLetsGo far_bytes heap logs turns end

-- no logs were chosen; or some were, and one of the turns was refused, by the device too as a write was answered: this was done until then
abbrev pub StopsRound : HeapId → Policy → ℕ → ℕ → Refusal → Progress → Type 0
StopsRound heap policy most turns why so_far = RefusesRound FarWrites FarLetsGo far_bytes heap (Gives policy) tt most tt turns record { so_far = so_far; why = why }

-- nothing was done
abbrev pub none_done : Progress
none_done = progress_of nothing false

-- ---- lines
-- a line was answered so. One log is refused where the heap has no such log; an audit where memory is. A refusal of a round tells what it had done where that is
-- anything, and always if the device failed, or memory was refused: a choice of logs calls no device and takes no memory, so a turn was refused then
abbrev pub TellsLine : HeapId → Command → Reply → Type 0
TellsLine heap (Book AsksLogs) (Logs lines) = TellsLogs heap (range_with_len 0 heap.logs) lines
TellsLine heap (Book (AsksLog log)) (Logs lines) = (log < heap.logs) × TellsLogs heap (log ∷ []) lines
TellsLine heap (Book (AsksLog log)) (Refused Range) = heap.logs ≤ log
TellsLine heap (Book AsksAudit) (Audited counts) = TellsCensus heap counts
TellsLine heap (Book AsksAudit) (Refused Memory) = Unit {0}
TellsLine heap (Evacuator (Round policy most turns)) (Ended end) = EndsRound heap policy most turns end
TellsLine heap (Evacuator (Round policy most turns)) (Refused why) = StopsRound heap policy most turns why none_done × (why ≢ Device) × (why ≢ Memory)
TellsLine heap (Evacuator (Round policy most turns)) (Halted why so_far) = StopsRound heap policy most turns why so_far × ((so_far ≢ none_done) ⊎ (why ≡ Memory) ⊎ (why ≡ Device))
TellsLine heap _ _ = ⊥

-- one reply to each line, in order
abbrev pub BookTold : HeapId → List Command → List Reply → Type 0
BookTold heap [] [] = Unit {0}
BookTold heap (line ∷ lines) (reply ∷ replies) = TellsLine heap line reply × BookTold heap lines replies
BookTold heap _ _ = ⊥
