-- What a round by turns, each under the lock anew, may answer.
use Rattle.std.specs.Prelude.{◌≡◌, ◌≢◌, ◌⊎◌, ◌-◌, ◌^◌, ◌<◌, ◌≤◌, ℕ, min, Bool, true, false, not, ◌&&◌, eqb, Some, None, List, [], ◌∷◌, drop, length, map, Option, Result, Ok, Err}
use Rattle.std.specs.List.{ends_with, list_all}
use Rattle.far_log.specs.declared.row.LogRow.{LogRow}
use Rattle.far_policy.specs.Choice.{IsBadChoice, IsChoice}
use Rattle.far_device.specs.declared.fault.DeviceFault.{DeviceFault}
use Rattle.far_word.specs.declared.refused.Refused.{Refused}
use Rattle.far_word.specs.declared.refused.Refused.TheVariants as refused
use Rattle.far_hand.specs.Came.{Came}
use Rattle.far_book.specs.book.Rows.{row_of}
use Rattle.far_table.specs.declared.book.BookSeat.{BookSeat}
use Rattle.far_table.specs.BookSeats.{seat_makes, seat_view}
use Rattle.far_evac.specs.declared.answers.EvacFault.{EvacFault}
use Rattle.far_evac.specs.declared.answers.RoundEnd.{RoundEnd}
use Rattle.far_evac.specs.declared.answers.RoundEnd.TheVariants.{Done, Nothing, Limit}
use Rattle.far_evac.specs.declared.phase.Phase.{Phase}
use Rattle.far_evac.specs.declared.phase.Phase.TheVariants.{Evacuating, Idle, Marking}
use Rattle.far_evac.specs.AnyTurns.{AsksInTurn, TurnsTo, sum_of}
use Rattle.far_evac.specs.ByCopying.{RefusesBy, StopsBy}
use Rattle.far_evac.specs.Choosing.{after_selecting}
use Rattle.far_evac.specs.EvacOf.{EvacOf, moment}
use Rattle.far_evac.specs.Live.{is_empty}
use Rattle.far_evac.specs.Moment.{Tally, nothing, plus, progress_of}
use Rattle.far_evac.specs.MomentLaw.{IsLawful, is_idle}
use Rattle.far_evac.specs.Refusals.{unselectable}
use Rattle.far_evac.specs.RoundSteps.{among}
use Rattle.far_evac.specs.Turns.{turn_size}
use Rattle.far_heap.specs.HeapId.{HeapId, heap_of}

-- ---- a choice
-- what the sealed logs of a book have, oldest first
abbrev pub rows_of : {D : Type 0} → EvacOf (BookSeat D) D → List LogRow
rows_of e = map (row_of (seat_view e.book.near)) e.book.order

module _ {P D : Type 0} (gives : P → List LogRow → ℕ → Result (List ℕ) Refused → P → Type 0) (heap : HeapId) (before : P) (most : ℕ) (after : P) where
  -- e is a book of this heap in no round, with an epoch left for one. The policy was handed what its sealed logs have, and chose these logs; f is the book
  -- where their round begins, or the same where there are none
  pub record Chooses (logs : List ℕ) (e f : EvacOf (BookSeat D) D) : Type 0 where
    pub named : heap_of e.copying e.book.near ≡ heap
    pub lawful : IsLawful (moment seat_view e)
    pub free : unselectable (moment seat_view e) ≡ None
    pub given : gives before (rows_of e) most (Ok logs) after
    pub choice : IsChoice (rows_of e) most logs
    pub came : Came seat_makes e.book.near f.book.near
    pub begun : moment seat_view f ≡ after_selecting (moment seat_view e) logs

  -- why none were chosen: a round runs in this book, or its epochs are spent, and the policy wasn't asked; or it was, of what this book's logs have, and this
  -- is its refusal
  abbrev pub IsUnchosen : EvacOf (BookSeat D) D → Refused → Type 0
  IsUnchosen e why = ((unselectable (moment seat_view e) ≡ Some why) × (after ≡ before))
      ⊎ ((unselectable (moment seat_view e) ≡ None) × IsBadChoice why × gives before (rows_of e) most (Err why) after)

  pub record ChoosesNone (why : Refused) (e f : EvacOf (BookSeat D) D) : Type 0 where
    pub named : heap_of e.copying e.book.near ≡ heap
    pub lawful : IsLawful (moment seat_view e)
    pub cause : IsUnchosen e why
    pub same : f ≡ e

-- so it was of some book, while the lock was held
pub record Chose {P : Type 0} (gives : P → List LogRow → ℕ → Result (List ℕ) Refused → P → Type 0) (D : Type 0) (heap : HeapId) (before : P) (most : ℕ) (after : P) (logs : List ℕ) : Type 0 where
  pub book : EvacOf (BookSeat D) D
  pub later : EvacOf (BookSeat D) D
  pub chooses : Chooses gives heap before most after logs book later

pub record ChoseNone {P : Type 0} (gives : P → List LogRow → ℕ → Result (List ℕ) Refused → P → Type 0) (D : Type 0) (heap : HeapId) (before : P) (most : ℕ) (after : P) (why : Refused) : Type 0 where
  pub book : EvacOf (BookSeat D) D
  pub later : EvacOf (BookSeat D) D
  pub refuses : ChoosesNone gives heap before most after why book later

-- ---- turns of the heap's book, in the round of the logs that were chosen
-- of these logs those are left: without copiers the last of them, or none; with copiers, who may hold any of them, each of those is one of them
abbrev pub IsRest : Bool → List ℕ → List ℕ → Type 0
IsRest false logs left = (given : ℕ) × (left ≡ drop given logs)
IsRest true logs left = (l : ℕ) → among left l ≡ true → among logs l ≡ true

-- a round that has these logs left is one of those, as far as a book can tell: some are left, and they are the last of those; or, with copiers, each is one of
-- those
abbrev pub is_rest : Bool → List ℕ → List ℕ → Bool
is_rest false logs left = ends_with eqb logs left
is_rest true logs left = list_all (among logs) left

abbrev pub is_round_of : Bool → List ℕ → List ℕ → Bool
is_round_of copying logs left = not (is_empty left) && is_rest copying logs left

-- a sum as it is told: the greatest number stands for all above it
abbrev pub told : ℕ → ℕ
told n = min n (2 ^ 64 - 1)

abbrev pub told_of : Tally → Tally
told_of t = record { moved = told t.moved; far = told t.far; dropped = told t.dropped; freed = told t.freed }

-- over the device's writes, the keys that it lets go of, and what it holds
module _ {D : Type 0} (writes : D → ℕ → List ℕ → Result (Unit {0}) DeviceFault → D → Type 0) (lets_go : D → ℕ → D → Type 0) (contents : D → ℕ → Option (List ℕ)) (heap : HeapId) where
  module _ (logs : List ℕ) where
    -- e is a book of this heap in which the round of these logs is running. One turn led from it to f, by the book's own calls alone; it counted this, asked the device
    -- for that and nothing else, and left the round in this phase, or over, exactly where the last of the logs was given back
    pub record Turns (tally : Tally) (over : Bool) (phase : Phase) (e f : EvacOf (BookSeat D) D) : Type 0 where
      pub named : heap_of e.copying e.book.near ≡ heap
      pub lawful : IsLawful (moment seat_view e)
      pub running : is_round_of e.copying logs e.collection ≡ true
      pub came : Came seat_makes e.book.near f.book.near
      pub turns : TurnsTo (moment seat_view e) e.phase tally over (moment seat_view f)
      pub asked : AsksInTurn ⊥ D writes lets_go contents (moment seat_view e) e.phase (moment seat_view f) tally e.book.device f.book.device
      pub left : IsRest e.copying logs f.collection
      pub none : is_empty f.collection ≡ over
      pub stands : f.phase ≡ phase
      pub ends : is_idle phase ≡ over

    -- one that was refused: the round of these logs wasn't running, or not any more; or objects were leaving, and it stopped at one. What was counted was asked of the
    -- device, and at last one write of that object's bytes, which was answered so
    pub record StopsTurn (tally : Tally) (why : Refused) (e f : EvacOf (BookSeat D) D) : Type 0 where
      pub named : heap_of e.copying e.book.near ≡ heap
      pub lawful : IsLawful (moment seat_view e)
      pub came : Came seat_makes e.book.near f.book.near
      pub barred : is_round_of e.copying logs e.collection ≡ false → (why ≡ refused.Phase) × (tally ≡ nothing) × (f ≡ e)
      pub stops : is_round_of e.copying logs e.collection ≡ true → ((why ≡ refused.Memory) ⊎ (why ≡ refused.Device)) × (e.phase ≡ Evacuating) × (f.phase ≡ Evacuating) × IsRest e.copying logs f.collection
          × StopsBy (moment seat_view e) turn_size (moment seat_view f) tally
      pub asked : is_round_of e.copying logs e.collection ≡ true → RefusesBy ⊥ D writes lets_go contents (moment seat_view e) turn_size (moment seat_view f) tally why e.book.device f.book.device

    pub record TurnMade (tally : Tally) (over : Bool) (phase : Phase) : Type 0 where
      pub before : EvacOf (BookSeat D) D
      pub later : EvacOf (BookSeat D) D
      pub turns : Turns tally over phase before later

    pub record TurnRefused (tally : Tally) (why : Refused) : Type 0 where
      pub before : EvacOf (BookSeat D) D
      pub later : EvacOf (BookSeat D) D
      pub stops : StopsTurn tally why before later

    -- turns one after the other, the last one first in the list, by what each counted. Others may have had the lock between any two
    abbrev pub TurnsMade : List Tally → Bool → Phase → Type 0
    TurnsMade [] over phase = (over ≡ false) × (phase ≡ Marking)
    TurnsMade (tally ∷ tallies) over phase = ((earlier : Phase) × TurnsMade tallies false earlier) × TurnMade tally over phase

    -- ---- how a round of these logs ends
    -- after turns of it, at most so many: done at the last, in which the last of the logs was given back; or after all, with the round in the phase in which the
    -- last turn left it, or in which the choice did
    abbrev pub EndsTurns : ℕ → RoundEnd → Type 0
    EndsTurns turns (Done progress) = (tallies : List Tally) × (length tallies ≤ turns) × TurnsMade tallies true Idle × (progress ≡ progress_of (told_of (sum_of tallies)) true)
    EndsTurns turns Nothing = ⊥
    EndsTurns turns (Limit phase) = (tallies : List Tally) × (length tallies ≡ turns) × TurnsMade tallies false phase × (phase ≢ Idle)

    -- one of so many turns was refused, after these
    pub record StopsTurns (turns : ℕ) (fault : EvacFault) : Type 0 where
      pub tallies : List Tally
      pub phase : Phase
      pub last : Tally
      pub few : length tallies < turns
      pub made : TurnsMade tallies false phase
      pub refused : TurnRefused last fault.why
      pub sum : fault.so_far ≡ progress_of (told_of (plus (sum_of tallies) last)) false

  -- after a policy chose these logs: with nothing exactly where it chose none
  abbrev pub EndsAfter : List ℕ → ℕ → RoundEnd → Type 0
  EndsAfter [] turns end = end ≡ Nothing
  EndsAfter (l ∷ ls) turns end = EndsTurns (l ∷ ls) turns end

  -- a round was refused: no logs were chosen, and nothing was done; or some were, and a turn was refused
  abbrev pub RefusesRound : {P : Type 0} → (P → List LogRow → ℕ → Result (List ℕ) Refused → P → Type 0) → P → ℕ → P → ℕ → EvacFault → Type 0
  RefusesRound gives before most after turns fault =
      ((fault.so_far ≡ progress_of nothing false) × ChoseNone gives D heap before most after fault.why)
      ⊎ ((logs : List ℕ) × Chose gives D heap before most after logs × (logs ≢ []) × StopsTurns logs turns fault)
