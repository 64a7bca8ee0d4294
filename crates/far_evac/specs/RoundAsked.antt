-- What whole rounds asked of the device: turn after turn, each from where the one before it left heap and device.
use Rattle.std.specs.Prelude.{◌≡◌, ◌+◌, ◌<◌, ◌≤◌, ℕ, Bool, true, false, List, [], ◌∷◌, length, Option, Result}
use Rattle.far_word.specs.declared.refused.Refused.{Refused}
use Rattle.far_device.specs.declared.fault.DeviceFault.{DeviceFault}
use Rattle.far_evac.specs.declared.answers.Progress.{Progress}
use Rattle.far_evac.specs.declared.answers.RoundEnd.{RoundEnd}
use Rattle.far_evac.specs.declared.answers.RoundEnd.TheVariants.{Done, Limit, Nothing}
use Rattle.far_evac.specs.declared.phase.Phase.{Phase}
use Rattle.far_evac.specs.declared.phase.Phase.TheVariants.{Evacuating}
use Rattle.far_evac.specs.AnyTurns.{AsksInTurn, EndsRound, TurnsBy, TurnsMade, sum_of}
use Rattle.far_evac.specs.Asked.{KeepsKeys, first_live}
use Rattle.far_evac.specs.ByCopying.{RefusesBy, StopsBy}
use Rattle.far_evac.specs.Choosing.{after_selecting}
use Rattle.far_evac.specs.Moment.{Moment, Tally, objects_in, plus, progress_of}
use Rattle.far_evac.specs.MomentLaw.{IsLawful}
use Rattle.far_evac.specs.Turns.{begun_turns, turn_size, turned}

-- what a round tells at its end: the sum of its turns where it is over, and else the phase in which it stands
abbrev pub TellsSum : List Tally → Bool → Phase → RoundEnd → Type 0
TellsSum tallies true phase end = end ≡ Done (progress_of (sum_of tallies) true)
TellsSum tallies false phase end = end ≡ Limit phase

-- turns, and what each asked; where no word changes but by them, each leads to the next moment as its phase says
abbrev pub TurnsAsking : (still : Type 0) (D : Type 0) → (D → ℕ → List ℕ → Result (Unit {0}) DeviceFault → D → Type 0) → (D → ℕ → D → Type 0) → (D → ℕ → Option (List ℕ)) → Moment → List Tally → Bool → Moment → D → D → Type 0
TurnsAsking still D writes lets_go contents m tallies done t old new = TurnsBy D (λ u v tally before after. AsksInTurn still D writes lets_go contents u u.phase v tally before after × (still → v ≡ (turned (begun_turns u) u.phase).moment)) m tallies done t old new

module _ (still : Type 0) (D : Type 0) (writes : D → ℕ → List ℕ → Result (Unit {0}) DeviceFault → D → Type 0) (lets_go : D → ℕ → D → Type 0) (contents : D → ℕ → Option (List ℕ)) where
  -- at most so many turns: one list tells what they left, what they asked, and what is answered of them. Unless a round ends early, since nobody else acts, all were
  -- made or it is over. Under every key but those of the objects that they dealt with is what was there: as each turn says, and of all turns together where no copy may be offered
  abbrev pub EndsAsking : Moment → ℕ → Bool → RoundEnd → Moment → D → D → Type 0
  EndsAsking m turns alone end t old new = (tallies : List Tally) × (over : Bool) × TurnsMade m tallies over t × TurnsAsking still D writes lets_go contents m tallies over t old new
      × (length tallies ≤ turns) × TellsSum tallies over t.phase end × (alone ≡ false → EndsRound turns tallies over t.phase end)
      × (m.copying ≡ false → KeepsKeys (first_live m (objects_in (sum_of tallies))) (contents old) (contents new))

  -- fewer than so many, and then one that stopped at an object, of which the one write was refused so
  abbrev pub StopsAsking : Moment → ℕ → Progress → Refused → Moment → D → D → Type 0
  StopsAsking m turns so_far why t old new = (tallies : List Tally) × (u : Moment) × (between : D) × (tally : Tally) × TurnsMade m tallies false u × TurnsAsking still D writes lets_go contents m tallies false u old between
      × (length tallies < turns) × (u.phase ≡ Evacuating) × StopsBy u turn_size t tally × RefusesBy still D writes lets_go contents u turn_size t tally why between new
      × (so_far ≡ progress_of (plus (sum_of tallies) tally) false) × IsLawful u
      × (m.copying ≡ false → KeepsKeys (first_live m (objects_in (plus (sum_of tallies) tally) + 1)) (contents old) (contents new))

  -- a round of these logs; where there are none, none begins, and nothing is asked
  abbrev pub RoundAsking : Moment → List ℕ → ℕ → Bool → RoundEnd → Moment → D → D → Type 0
  RoundAsking m [] turns alone end t old new = (end ≡ Nothing) × (t ≡ m) × (new ≡ old)
  RoundAsking m (l ∷ ls) turns alone end t old new = EndsAsking (after_selecting m (l ∷ ls)) turns alone end t old new
