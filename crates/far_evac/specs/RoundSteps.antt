-- What the steps of a round make of a state.
use Rattle.std.specs.Prelude.{ℕ, ◌+◌, ◌/◌, Bool, false, eqb, ◌==◌, ◌||◌, nat_lt, nat_le, List}
use Rattle.std.specs.List.{list_any}
use Rattle.far_events.specs.declared.event.Event.TheVariants.{Clear}
use Rattle.far_events.specs.events.Step.{after}
use Rattle.far_events.specs.state.State.{State}

-- a log is one of these
abbrev pub among : List ℕ → ℕ → Bool
among logs l = list_any (eqb l) logs

-- the epoch rises, and a round of these logs begins, in which no owner was seen clear
abbrev pub advanced : State → List ℕ → State
advanced s logs = record s { epoch = s.epoch + 1; round = among logs; round_epoch = s.epoch + 1; clear = λ _. false }

-- an owner's scope is closed, or open at the round's epoch or later
abbrev pub is_clear_now : State → ℕ → Bool
is_clear_now s m = (s.scope m == 0) || nat_le s.round_epoch (s.scope m / 2)

-- the owners below a number were seen clear
abbrev pub with_clear_below : State → ℕ → State
with_clear_below s k = record s { clear = λ m. s.clear m || nat_lt m k }

-- a near pointer loses EVAC, and its log leaves the round
abbrev pub unmarked : State → ℕ → State
unmarked s p = after s (Clear p)
