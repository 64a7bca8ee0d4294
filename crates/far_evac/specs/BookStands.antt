-- Where a walk over the objects of logs stands, by its book and what was counted.
use Rattle.std.specs.Prelude.{◌≡◌, ◌≢◌, ◌<◌, ℕ, Bool, true, false, cond, Option, Some, None, List, Result, Ok, Err}
use Rattle.far_word.specs.declared.pointer.PtrWord.{PtrWord}
use Rattle.far_word.specs.declared.refused.Refused.{Refused}
use Rattle.far_word.specs.Pointer.{read_of}
use Rattle.far_device.specs.declared.fault.DeviceFault.{DeviceFault}
use Rattle.far_hand.specs.Finds.{Finds}
use Rattle.far_word.specs.declared.pointer.PtrWord.TheVariants as pointer
use Rattle.far_events.specs.declared.event.Kind.TheVariants.{Sealed}
use Rattle.far_events.specs.state.State.{State}
use Rattle.far_book.specs.book.BookOf.{BookOf}
use Rattle.far_book.specs.book.Dealing.{is_failure}
use Rattle.far_book.specs.book.Effects.{order_after}
use Rattle.far_book.specs.book.Offering.{offered}
use Rattle.far_evac.specs.declared.evac.evacuating.Fate.{Fate}
use Rattle.far_evac.specs.AnyHand.{Knows}
use Rattle.far_evac.specs.Leaving.{core_by, fate_by, order_by}
use Rattle.far_evac.specs.Live.{live_in}
use Rattle.far_evac.specs.declared.answers.Progress.{Progress}
use Rattle.far_evac.specs.declared.evac.beside.Passage.{Passage}
use Rattle.far_evac.specs.declared.evac.beside.Passage.TheVariants.{On, Stops, Fails}
use Rattle.far_evac.specs.declared.evac.beside.Warmth.{Warmth}
use Rattle.far_evac.specs.declared.evac.beside.Warmth.TheVariants.{Cold, Dropped, Hot}
use Rattle.far_evac.specs.declared.phase.Phase.TheVariants.{Evacuating}
use Rattle.far_evac.specs.Beside.{AsksBeside, At, Before, Behind, Dealing, End, Leaves, Offers, dealing_of}
use Rattle.far_evac.specs.Moment.{tally_of}
use Rattle.far_evac.specs.Ready.{AllMarked}
use Rattle.far_evac.specs.Walk.{Walked}

-- the collection set is the evacuator's: a walk over the book leaves it
abbrev pub stands : {N D : Type 0} → (N → State) → BookOf N D → Progress → List ℕ → Walked
stands view book progress held = record { moment = record { core = view book.near; order = book.order; phase = Evacuating; collection = held; copying = true }; tally = tally_of progress }

abbrev pub end_of : Passage → End
end_of On = Behind
end_of Stops = Before
end_of (Fails p why) = At p why

-- the device failed where a walk has ended
abbrev pub is_failed : End → Bool
is_failed Behind = false
is_failed Before = false
is_failed (At p why) = is_failure {A = Unit {0}} (Err why)

-- a log may be walked over: it is sealed and in the round, what lies in it has EVAC, and every owner was seen clear
pub record IsChosen (s : State) (l : ℕ) : Type 0 where
  pub sealed : s.kind l ≡ Sealed
  pub round : s.round l ≡ true
  pub marked : AllMarked s l
  pub clear : (k : ℕ) → k < s.mutators → s.clear k ≡ true

-- a walk over a log l leaves the round and who was seen clear in it; each log that may be walked over stays such, and but for l what lives there
pub record KeepsChosen (s : State) (l : ℕ) (t : State) : Type 0 where
  pub round : t.round ≡ s.round
  pub clear : t.clear ≡ s.clear
  pub mutators : t.mutators ≡ s.mutators
  pub chosen : (k : ℕ) → IsChosen s k → IsChosen t k
  pub lives : (k : ℕ) → k ≢ l → IsChosen s k → live_in t k ≡ live_in s k

-- what a cell says of its object
abbrev pub warmth_of : Option PtrWord → Warmth
warmth_of None = Dropped
warmth_of (Some pointer.Free) = Dropped
warmth_of (Some (pointer.Near len ds place marks)) = cond marks.dropped Dropped (cond marks.hot Hot Cold)
warmth_of (Some (pointer.Far len ds marks)) = Dropped

-- ---- one object
abbrev pub core_beside : State → ℕ → Dealing → State
core_beside s p (Leaves way) = core_by s p way
core_beside s p (Offers j to) = offered s j p to

abbrev pub order_beside : State → List ℕ → Dealing → List ℕ
order_beside s order (Leaves way) = order_by s order way
order_beside s order (Offers j to) = order_after s order to

abbrev pub fate_beside : Dealing → Option Fate
fate_beside (Leaves way) = Some (fate_by way)
fate_beside (Offers j to) = None

-- from s to t an object was dealt with, as a word says that was found in its cell
pub record GoesBeside (D : Type 0) (writes : D → ℕ → List ℕ → Result (Unit {0}) DeviceFault → D → Type 0) (lets_go : D → ℕ → D → Type 0) (s : State) (order : List ℕ) (t : State) (after : List ℕ) (p : ℕ) (fate : Option Fate) (old new : D) : Type 0 where
  pub word : ℕ
  pub found : Finds (s.cell p) word
  pub core : Knows (core_beside s p (dealing_of s (read_of word))) t
  pub sealed : after ≡ order_beside s order (dealing_of s (read_of word))
  pub is : fate ≡ fate_beside (dealing_of s (read_of word))
  pub asks : AsksBeside D writes lets_go s p (dealing_of s (read_of word)) old new

abbrev pub known : Result Fate Refused → Result (Option Fate) Refused
known (Ok fate) = Ok (Some fate)
known (Err why) = Err why
