-- What the book's lines are told, in other words: by what is asked and told alone, and in digits.
use Rattle.std.specs.Prelude.{◌≡◌, ◌≢◌, ◌⊎◌, ◌↔◌, ℕ, ◌+◌, ◌*◌, ◌^◌, ◌<◌, ◌≤◌, Bool, false, true, Some, List, [], ◌∷◌, Contains, length, map, min, sum, take}
use Rattle.std.specs.List.{AllByRecursion, AllZip, range_with_len, sum_by}
use Rattle.far_word.specs.declared.mark.Marks.{Marks}
use Rattle.far_word.specs.declared.pointer.Place.{Place}
use Rattle.far_word.specs.declared.pointer.PtrWord.TheVariants as pointer
use Rattle.far_word.specs.declared.refused.Refused.{Refused as Refusal}
use Rattle.far_word.specs.Pointer.{read_of}
use Rattle.far_word.specs.Refused.{refusal_number}
use Rattle.far_events.specs.declared.event.Kind.TheVariants as kinds
use Rattle.far_core.specs.laws.Observed.{live_bytes}
use Rattle.far_events.specs.state.State.{State}
use Rattle.far_hand.specs.Came.{Came}
use Rattle.far_table.specs.declared.book.BookSeat.{BookSeat}
use Rattle.far_table.specs.BookSeats.{seat_makes}
use Rattle.far_evac.specs.declared.answers.Progress.{Progress}
use Rattle.far_evac.specs.declared.answers.RoundEnd.TheVariants as ends
use Rattle.far_evac.specs.declared.phase.Phase.{Phase}
use Rattle.far_evac.specs.declared.phase.Phase.TheVariants.{Idle, Marking, Waiting, Evacuating}
use Rattle.far_evac.specs.AnyTurns.{sum_of}
use Rattle.far_evac.specs.EvacOf.{EvacOf}
use Rattle.far_evac.specs.LiveLaws.{IsInTurn}
use Rattle.far_evac.specs.Moment.{Moment, Tally, progress_of}
use Rattle.far_evac.specs.RoundSteps.{among}
use Rattle.far_heap.specs.HeapId.{HeapId, heap_of}
use Rattle.far_heap.specs.Rounds.{TurnRefused, TurnsMade, is_round_of, told_of}
use Rattle.far_text.specs.Command.{Command, Book, Evacuator, Logs as AsksLogs, Log as AsksLog, Audit as AsksAudit, LeastLive, Oldest, Policy, Round}
use Rattle.far_reply.specs.declared.reply.Counts.{Counts}
use Rattle.far_reply.specs.declared.reply.LogLine.{LogLine}
use Rattle.far_reply.specs.Reply.{Reply, Audited, Ended, Halted, Logs, Refused}
use Rattle.far_split.specs.BookTold.{BookStood, BookTold, TellsLine}
use Rattle.far_split.specs.FarSides.{FarLetsGo, FarSide, FarWrites, far_bytes}

-- ---- which logs a round takes
-- of the sealed logs as many as are to be chosen, or all: the oldest, in their order; or some of which none has more live bytes than a sealed log that is left
abbrev pub IsChosenBy : Policy → ℕ → List ℕ → Moment → Type 0
IsChosenBy Oldest most logs now = logs ≡ take most now.order
IsChosenBy LeastLive most logs now = (length logs ≡ min most (length now.order))
    × ((l k : ℕ) → among logs l ≡ true → now.core.kind k ≡ kinds.Sealed → among logs k ≡ false → live_bytes now.core l ≤ live_bytes now.core k)

-- ---- what a round counts
-- a number is the sum of what turns counted of one kind, or 2^64 - 1, where that sum is greater
abbrev pub IsSumOf : (Tally → ℕ) → List Tally → ℕ → Type 0
IsSumOf count tallies number = ((sum_by count tallies < 2 ^ 64) × (number ≡ sum_by count tallies)) ⊎ ((2 ^ 64 ≤ sum_by count tallies) × (number ≡ 18446744073709551615))

-- each of a round's four counts is such a sum of its turns
pub record AddsUp (tallies : List Tally) (progress : Progress) : Type 0 where
  pub moved : IsSumOf (λ (t : Tally). t.moved) tallies progress.moved
  pub far : IsSumOf (λ (t : Tally). t.far) tallies progress.far
  pub dropped : IsSumOf (λ (t : Tally). t.dropped) tallies progress.dropped
  pub freed : IsSumOf (λ (t : Tally). t.freed) tallies progress.freed

-- a turn dealt with 16 objects at most
abbrev pub IsOf16 : Tally → Type 0
IsOf16 tally = tally.moved + tally.far + tally.dropped ≤ 16

-- in numerals: two turns, of which the later one stands first, tell their sums, and 2^64 - 1 for what is greater
abbrev pub a_tally : ℕ → ℕ → ℕ → ℕ → Tally
a_tally moved far dropped freed = record { moved = moved; far = far; dropped = dropped; freed = freed }

abbrev pub SumsAreTold : Type 0
SumsAreTold = (done : Bool) →
    (progress_of (told_of (sum_of (a_tally 10 20 30 40 ∷ a_tally 1 2 3 4 ∷ []))) done ≡ record { moved = 11; far = 22; dropped = 33; freed = 44; done = done })
    × (progress_of (told_of (sum_of (a_tally 0 1 2 9 ∷ a_tally 18446744073709551614 18446744073709551614 18446744073709551614 18446744073709551614 ∷ []))) done
    ≡ record { moved = 18446744073709551614; far = 18446744073709551615; dropped = 18446744073709551615; freed = 18446744073709551615; done = done })

-- ---- a round that is refused
-- no round ran, and the next epoch would have been the one that never comes
abbrev pub HasNoEpoch : Moment → Type 0
HasNoEpoch now = (now.phase ≡ Idle) × (now.core.epoch + 1 ≡ 2 ^ 62)

-- a round ran
abbrev pub HasRound : Moment → Type 0
HasRound now = now.phase ≢ Idle

-- logs were chosen for a round, and that wasn't running then, or not any more
pub record IsLost (heap : HeapId) (policy : Policy) (most : ℕ) : Type 0 where
  pub logs : List ℕ
  pub some : logs ≢ []
  pub chosen : BookStood heap (IsChosenBy policy most logs)
  pub over : BookStood heap (λ now. is_round_of now.copying logs now.collection ≡ false)

-- it tells no counts: a round ran already, or another ended it before it did anything; or no epoch was left, at some moment
abbrev pub IsRefusedBare : HeapId → Policy → ℕ → Refusal → Type 0
IsRefusedBare heap policy most why = ((refusal_number why ≡ 12) × (BookStood heap HasRound ⊎ IsLost heap policy most)) ⊎ ((refusal_number why ≡ 13) × BookStood heap HasNoEpoch)

-- it tells counts: memory was refused in a turn, or the device failed, whatever the round had done; or another ended the round, which had done something
abbrev pub IsRefusedWithCounts : Refusal → Progress → Type 0
IsRefusedWithCounts why so_far = (refusal_number why ≡ 1) ⊎ (refusal_number why ≡ 10) ⊎ ((refusal_number why ≡ 12) × (0 < so_far.moved + so_far.far + so_far.dropped + so_far.freed))

-- fewer turns than so many were made of a round of logs that the policy chose, and then one that was refused so; they counted so much together. Where no copy may be
-- offered each of them, the refused one too, dealt with 16 objects at most; so no more objects are told than 16 for each turn that was to be made
pub record IsStoppedBy (heap : HeapId) (policy : Policy) (most turns : ℕ) (why : Refusal) (so_far : Progress) : Type 0 where
  pub logs : List ℕ
  pub chosen : BookStood heap (IsChosenBy policy most logs)
  pub tallies : List Tally
  pub last : Tally
  pub phase : Phase
  pub few : length tallies < turns
  pub made : TurnsMade FarWrites FarLetsGo far_bytes heap logs tallies false phase
  pub refused : TurnRefused FarWrites FarLetsGo far_bytes heap logs last why
  pub sums : AddsUp (last ∷ tallies) so_far
  pub objects : heap.copying ≡ false → AllByRecursion IsOf16 (last ∷ tallies)
  pub total : heap.copying ≡ false → so_far.moved + so_far.far + so_far.dropped ≤ 16 * turns

-- there are no other refusals of a round, whatever the policy
abbrev pub RoundsAreRefusedSo : Type 0
RoundsAreRefusedSo = (heap : HeapId) (policy : Policy) (most turns : ℕ) (why : Refusal) (so_far : Progress) → (TellsLine heap (Evacuator (Round policy most turns)) (Refused why) → IsRefusedBare heap policy most why)
    × (TellsLine heap (Evacuator (Round policy most turns)) (Halted why so_far) → IsRefusedWithCounts why so_far)

-- ---- a round that ends
-- no log was sealed, so there was none to choose
abbrev pub HasNoneSealed : Moment → Type 0
HasNoneSealed now = (l : ℕ) → l < now.core.logs → now.core.kind l ≢ kinds.Sealed

-- the phase before another: a round begins in Marking, goes on in Waiting and Evacuating, and after that none is running
abbrev pub phase_before : Phase → Phase
phase_before Idle = Evacuating
phase_before Marking = Idle
phase_before Waiting = Marking
phase_before Evacuating = Waiting

-- a round was running in this phase, or in the one before it
abbrev pub RanInOrBefore : Phase → Moment → Type 0
RanInOrBefore phase now = (now.phase ≢ Idle) × ((now.phase ≡ phase) ⊎ (now.phase ≡ phase_before phase))

-- a turn found a round running in this phase, or in the one before it, and left the book in this phase
pub record IsLeftIn (heap : HeapId) (phase : Phase) : Type 0 where
  pub stood : BookStood heap (RanInOrBefore phase)
  pub later : EvacOf (BookSeat FarSide) FarSide
  pub named : heap_of later.copying later.book.near ≡ heap
  pub came : Came seat_makes stood.book.book.near later.book.near
  pub left : later.phase ≡ phase

-- at most so many turns were made of a round of logs that the policy chose, and it was over with the last of them, which gave back all logs that the round had left,
-- and counted them; they counted so much together, and gave a log back at least. Where no copy may be offered each of them dealt with 16 objects at most; so no more
-- objects are told than 16 for each turn that was to be made
pub record IsDoneBy (heap : HeapId) (policy : Policy) (most turns : ℕ) (progress : Progress) : Type 0 where
  pub logs : List ℕ
  pub chosen : BookStood heap (IsChosenBy policy most logs)
  pub tallies : List Tally
  pub last : Tally
  pub few : length tallies < turns
  pub made : TurnsMade FarWrites FarLetsGo far_bytes heap logs (last ∷ tallies) true Idle
  pub sums : AddsUp (last ∷ tallies) progress
  pub freed : 0 < progress.freed
  pub objects : heap.copying ≡ false → AllByRecursion IsOf16 (last ∷ tallies)
  pub total : heap.copying ≡ false → progress.moved + progress.far + progress.dropped ≤ 16 * turns
  pub over : IsLeftIn heap Idle
  pub back : last.freed ≡ length over.stood.book.collection

-- of a round of logs that the policy chose as many turns are told as were to be made, of which one may stand for several: no book is told to be that of the turn
-- before. The round is in the phase in which the last of them left it; where none was to be made, objects are to be marked
pub record IsAtLimit (heap : HeapId) (policy : Policy) (most turns : ℕ) (phase : Phase) : Type 0 where
  pub logs : List ℕ
  pub chosen : BookStood heap (IsChosenBy policy most logs)
  pub tallies : List Tally
  pub all : length tallies ≡ turns
  pub made : TurnsMade FarWrites FarLetsGo far_bytes heap logs tallies false phase
  pub stands : ((turns ≡ 0) × (phase ≡ Marking)) ⊎ ((0 < turns) × IsLeftIn heap phase)

-- ---- an audit
-- a pointer's cell says that its object is near, or that it is far, and lacks DROP
abbrev pub SaysNear : State → ℕ → Type 0
SaysNear s p = (len structure : ℕ) × (place : Place) × (marks : Marks) × (read_of (s.cell p) ≡ Some (pointer.Near len structure place marks)) × (marks.dropped ≡ false)

abbrev pub SaysFar : State → ℕ → Type 0
SaysFar s p = (len structure : ℕ) × (marks : Marks) × (read_of (s.cell p) ≡ Some (pointer.Far len structure marks)) × (marks.dropped ≡ false)

-- so many pointers are so: a list has each of them, once, and no other
abbrev pub AreSoMany : (ℕ → Type 0) → ℕ → Type 0
AreSoMany P many = (pointers : List ℕ) × (length pointers ≡ many) × IsInTurn (λ p q. p < q) pointers × ((p : ℕ) → Contains pointers p ↔ P p)

-- all is counted: so many cells say near, so many far, and the logs have so many live bytes
abbrev pub CountsAll : Counts → Moment → Type 0
CountsAll counts now = AreSoMany (SaysNear now.core) counts.near × AreSoMany (SaysFar now.core) counts.far
    × (counts.live ≡ sum (map (live_bytes now.core) (range_with_len 0 now.core.logs)))

-- ---- all lines
-- a log's three numbers make its bytes
abbrev pub MakesBytes : LogLine → Type 0
MakesBytes line = line.live + line.dead + line.unused ≡ 4096

-- the logs that lines are of
abbrev pub numbers_of : List LogLine → List ℕ
numbers_of lines = map (λ (line : LogLine). line.log) lines

-- what a line may be told: a line for each log from 0 on, or for the one that is asked for; 8 where the heap has no such log; of an audit what was counted of one moment, or 1, and no other
-- refusal; of a round that no log was chosen, where none was to be or none was sealed, or how a round of some logs ended, or the refusals above. No mutator's line, and no
-- step that isn't a round, is one that the book answers
abbrev pub IsToldSo : HeapId → Command → Reply → Type 0
IsToldSo heap (Book AsksLogs) (Logs lines) = (numbers_of lines ≡ range_with_len 0 heap.logs) × AllByRecursion MakesBytes lines
IsToldSo heap (Book (AsksLog log)) (Logs lines) = (log < heap.logs) × (numbers_of lines ≡ log ∷ []) × AllByRecursion MakesBytes lines
IsToldSo heap (Book (AsksLog log)) (Refused why) = (heap.logs ≤ log) × (refusal_number why ≡ 8)
IsToldSo heap (Book AsksAudit) (Audited counts) = BookStood heap (CountsAll counts)
IsToldSo heap (Book AsksAudit) (Refused why) = refusal_number why ≡ 1
IsToldSo heap (Evacuator (Round policy most turns)) (Ended ends.Nothing) = (most ≡ 0) ⊎ BookStood heap HasNoneSealed
IsToldSo heap (Evacuator (Round policy most turns)) (Ended (ends.Done progress)) = (0 < most) × (0 < turns) × (progress.done ≡ true) × IsDoneBy heap policy most turns progress
IsToldSo heap (Evacuator (Round policy most turns)) (Ended (ends.Limit phase)) = (0 < most) × (phase ≢ Idle) × IsAtLimit heap policy most turns phase
IsToldSo heap (Evacuator (Round policy most turns)) (Refused why) = IsRefusedBare heap policy most why
IsToldSo heap (Evacuator (Round policy most turns)) (Halted why so_far) = IsRefusedWithCounts why so_far × (so_far.done ≡ false) × IsStoppedBy heap policy most turns why so_far
IsToldSo heap _ _ = ⊥

-- each line is told one thing, in order
abbrev pub BookIsToldSo : Type 0
BookIsToldSo = (heap : HeapId) (lines : List Command) (replies : List Reply) → BookTold heap lines replies → AllZip (IsToldSo heap) lines replies
