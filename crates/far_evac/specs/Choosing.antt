-- How a round begins, and how it is given up.
use Rattle.std.specs.Prelude.{ℕ, ◌+◌, Bool, ◌==◌, List, [], ◌∷◌, fold}
use Rattle.far_word.specs.declared.sizes.TheConstants.{EPOCH_END}
use Rattle.far_events.specs.state.State.{State}
use Rattle.far_evac.specs.declared.phase.Phase.TheVariants.{Idle, Marking}
use Rattle.far_evac.specs.Live.{live_among}
use Rattle.far_evac.specs.Moment.{Moment}
use Rattle.far_evac.specs.RoundSteps.{unmarked}

-- no epoch is left for another round
abbrev pub is_spent : State → Bool
is_spent s = s.epoch + 1 == EPOCH_END

-- these logs were chosen; where there is none, no round begins
abbrev pub after_selecting : Moment → List ℕ → Moment
after_selecting m [] = m
after_selecting m (l ∷ ls) = record m { phase = Marking; collection = l ∷ ls }

-- the live objects of the collection set lose EVAC, and the round is over
abbrev pub after_aborting : Moment → Moment
after_aborting m = record m { core = fold unmarked m.core (live_among m.core m.collection); phase = Idle; collection = [] }
