-- Whole rounds: turn after turn, where no word changes but by this.
use Rattle.std.specs.Prelude.{◌≡◌, ◌<◌, ℕ, List, [], ◌∷◌, zero, suc, Bool, true, false, cond, if◌then◌else◌}
use Rattle.far_evac.specs.declared.answers.Progress.{Progress}
use Rattle.far_evac.specs.declared.answers.RoundEnd.{RoundEnd}
use Rattle.far_evac.specs.declared.answers.RoundEnd.TheVariants.{Done, Limit, Nothing}
use Rattle.far_evac.specs.declared.phase.Phase.{Phase}
use Rattle.far_evac.specs.declared.phase.Phase.TheVariants.{Idle, Marking, Waiting, Evacuating}
use Rattle.far_evac.specs.Choosing.{after_selecting}
use Rattle.far_evac.specs.Marking.{after_marking}
use Rattle.far_evac.specs.Moment.{Moment, Tally, nothing, plus, progress_of}
use Rattle.far_evac.specs.Waiting.{after_polling}
use Rattle.far_evac.specs.Walk.{walked, ended, is_done}

-- how many objects a turn marks or deals with at most
unfoldable pub turn_size : ℕ
turn_size = 16

-- where a round stands after some turns, what they have done, and whether it is over
pub record Turned : Type 0 where
  pub moment : Moment
  pub tally : Tally
  pub over : Bool

-- before the first turn
abbrev pub begun_turns : Moment → Turned
begun_turns m = record { moment = m; tally = nothing; over = false }

-- one turn more, by the phase
abbrev pub turned : Turned → Phase → Turned
turned r Idle = r
turned r Marking = record r { moment = after_marking r.moment turn_size }
turned r Waiting = record r { moment = after_polling r.moment }
turned r Evacuating =
    let w = walked r.moment turn_size in record { moment = ended w; tally = plus r.tally w.tally; over = is_done w }

-- so many turns, or until the round is over
abbrev pub turns_made : Moment → ℕ → Turned
turns_made m zero = begun_turns m
turns_made m (suc n) = let r = turns_made m n in if r.over then r else turned r r.moment.phase

-- how a round ends after so many turns
abbrev pub round_end : Turned → RoundEnd
round_end r = cond r.over (Done (progress_of r.tally true)) (Limit r.moment.phase)

-- a round of these logs, exactly: where there are none, none begins
abbrev pub IsRound : Moment → List ℕ → ℕ → RoundEnd → Moment → Type 0
IsRound m [] turns end t = (end ≡ Nothing) × (t ≡ m)
IsRound m (l ∷ ls) turns end t = let r = turns_made (after_selecting m (l ∷ ls)) turns in (end ≡ round_end r) × (t ≡ r.moment)

-- a walk over n objects was refused at one of them: it stands, and has counted, as after those before it
abbrev pub Halts : Moment → ℕ → Moment → Tally → Type 0
Halts m n t tally = (k : ℕ) × (k < n) × (t ≡ (walked m k).moment) × (tally ≡ (walked m k).tally)

-- so many turns were to be made, and one was refused, in which objects leave: what the turns before it made, and what was done in it, stays and is counted
abbrev pub HaltsTurns : Moment → ℕ → Progress → Moment → Type 0
HaltsTurns m turns so_far t = (n : ℕ) × (tally : Tally) × (n < turns) × ((turns_made m n).over ≡ false) × ((turns_made m n).moment.phase ≡ Evacuating)
    × Halts (turns_made m n).moment turn_size t tally × (so_far ≡ progress_of (plus (turns_made m n).tally tally) false)
