-- Turns and whole rounds over any hand, by whether copies may be offered.
use Rattle.std.specs.Prelude.{◌≡◌, ℕ, ◌<◌, ◌≤◌, Bool, true, false, Option, List, [], ◌∷◌, length, Result}
use Rattle.far_device.specs.declared.fault.DeviceFault.{DeviceFault}
use Rattle.far_evac.specs.declared.answers.Polled.{Polled}
use Rattle.far_evac.specs.declared.answers.Progress.{Progress}
use Rattle.far_evac.specs.declared.answers.RoundEnd.{RoundEnd}
use Rattle.far_evac.specs.declared.answers.RoundEnd.TheVariants.{Done, Nothing, Limit}
use Rattle.far_evac.specs.declared.phase.Phase.{Phase}
use Rattle.far_evac.specs.declared.phase.Phase.TheVariants.{Idle, Marking, Waiting, Evacuating}
use Rattle.far_evac.specs.AnyHand.{MarksSome, Polls}
use Rattle.far_evac.specs.ByCopying.{AsksBy, EvacuatesBy, StopsBy}
use Rattle.far_evac.specs.Choosing.{after_selecting}
use Rattle.far_evac.specs.Moment.{Moment, Tally, nothing, plus, progress_of}
use Rattle.far_evac.specs.MomentLaw.{IsLawful}
use Rattle.far_evac.specs.Turns.{turn_size}

-- ---- a turn by its phase
abbrev pub TurnsTo : Moment → Phase → Tally → Bool → Moment → Type 0
TurnsTo m Idle tally done t = ⊥
TurnsTo m Marking tally done t = (tally ≡ nothing) × (done ≡ false) × ((count : ℕ) × (waiting : Option ℕ) × MarksSome m t turn_size count waiting)
TurnsTo m Waiting tally done t = (tally ≡ nothing) × (done ≡ false) × ((answer : Polled) × Polls m t answer)
TurnsTo m Evacuating tally done t = EvacuatesBy m turn_size t tally done

-- a turn asks for something only where objects leave
module _ (still : Type 0) (D : Type 0) (writes : D → ℕ → List ℕ → Result (Unit {0}) DeviceFault → D → Type 0) (lets_go : D → ℕ → D → Type 0) (contents : D → ℕ → Option (List ℕ)) where
  abbrev pub AsksInTurn : Moment → Phase → Moment → Tally → D → D → Type 0
  AsksInTurn m Idle t tally old new = ⊥
  AsksInTurn m Marking t tally old new = new ≡ old
  AsksInTurn m Waiting t tally old new = new ≡ old
  AsksInTurn m Evacuating t tally old new = AsksBy still D writes lets_go contents m turn_size t tally old new

-- ---- turns and rounds
-- turns one after the other, the last one first in the list, each from a moment that is lawful; and what each asked of a device
module _ (D : Type 0) (Asks : Moment → Moment → Tally → D → D → Type 0) where
  abbrev pub TurnsBy : Moment → List Tally → Bool → Moment → D → D → Type 0
  TurnsBy m [] done t old new = (t ≡ m) × (done ≡ false) × (new ≡ old)
  TurnsBy m (tally ∷ tallies) done t old new = (u : Moment) × (between : D) × TurnsBy m tallies false u old between × TurnsTo u u.phase tally done t × Asks u t tally between new × IsLawful u

-- the same, of no device
abbrev pub TurnsMade : Moment → List Tally → Bool → Moment → Type 0
TurnsMade m tallies done t = TurnsBy (Unit {0}) (λ u v tally old new. Unit {0}) m tallies done t tt tt

abbrev pub sum_of : List Tally → Tally
sum_of [] = nothing
sum_of (tally ∷ tallies) = plus (sum_of tallies) tally

-- after so many turns, of which these were made, the round is over; or all were made, and it stands in a phase
abbrev pub EndsRound : ℕ → List Tally → Bool → Phase → RoundEnd → Type 0
EndsRound turns tallies true phase end = end ≡ Done (progress_of (sum_of tallies) true)
EndsRound turns tallies false phase end = (length tallies ≡ turns) × (end ≡ Limit phase)

-- a round of these logs
abbrev pub RunsRound : Moment → List ℕ → ℕ → RoundEnd → Moment → Type 0
RunsRound m [] turns end t = (end ≡ Nothing) × (t ≡ m)
RunsRound m (l ∷ ls) turns end t = (tallies : List Tally) × (over : Bool) × TurnsMade (after_selecting m (l ∷ ls)) tallies over t
    × (length tallies ≤ turns) × EndsRound turns tallies over t.phase end

-- the same, but that a turn stopped at an object
abbrev pub StopsRound : Moment → List ℕ → ℕ → Progress → Moment → Type 0
StopsRound m logs turns so_far t = (tallies : List Tally) × (u : Moment) × (tally : Tally) × TurnsMade (after_selecting m logs) tallies false u
    × (length tallies < turns) × (u.phase ≡ Evacuating) × StopsBy u turn_size t tally × (so_far ≡ progress_of (plus (sum_of tallies) tally) false) × IsLawful u
