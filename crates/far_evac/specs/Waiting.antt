-- Waiting: the owners' scopes are looked at in order, up to the first that is open from before the round.
use Rattle.std.specs.Prelude.{◌≡◌, ℕ, ◌+◌, ◌*◌, ◌/◌, ◌<◌, Bool, false, not, ◌||◌, Option, Some, None, find}
use Rattle.std.specs.List.{range_with_len}
use Rattle.far_events.specs.declared.event.Event.{Event}
use Rattle.far_events.specs.declared.event.Event.TheVariants.{Look}
use Rattle.far_events.specs.state.State.{State}
use Rattle.far_evac.specs.declared.answers.Polled.{Polled}
use Rattle.far_evac.specs.declared.answers.Polled.TheVariants.{Clear, StillOpen}
use Rattle.far_evac.specs.declared.phase.Phase.TheVariants.{Evacuating}
use Rattle.far_evac.specs.Moment.{Moment}
use Rattle.far_evac.specs.RoundSteps.{is_clear_now, with_clear_below}

-- an owner wasn't seen clear in this round, and isn't clear now
abbrev pub holds_up : State → ℕ → Bool
holds_up s m = not (s.clear m || is_clear_now s m)

-- the first such owner
abbrev pub first_open : State → Option ℕ
first_open s = find (holds_up s) (range_with_len 0 s.mutators)

abbrev pub polled_to : Moment → Option ℕ → Moment
polled_to m None = record m { core = with_clear_below m.core m.core.mutators; phase = Evacuating }
polled_to m (Some k) = record m { core = with_clear_below m.core k }

abbrev pub after_polling : Moment → Moment
after_polling m = polled_to m (first_open m.core)

-- the answer: an owner's scope word is twice its epoch and 1 more
abbrev pub polled_at : State → Option ℕ → Polled
polled_at s None = Clear
polled_at s (Some k) = StillOpen k (s.scope k / 2)

abbrev pub polled : State → Polled
polled s = polled_at s (first_open s)

-- what looks at the owners that weren't seen clear leave, up to the first that is open from before the round: this owner, if there is one
pub record StopsLooking (s t : State) (k epoch : ℕ) : Type 0 where
  pub leaves : t ≡ with_clear_below s k
  pub owner : k < s.mutators
  pub unseen : s.clear k ≡ false
  pub older : epoch < s.round_epoch

-- a look at an owner's scope
abbrev pub Looks : Event → Type 0
Looks e = (owner : ℕ) × (e ≡ Look owner)

-- where an answer names an owner and an epoch, its scope word said so in a state that the words may be in
abbrev pub SawOpen : (State → Type 0) → Polled → Type 0
SawOpen may Clear = Unit {0}
SawOpen may (StillOpen k epoch) = ∥ ((x : State) × may x × (x.scope k ≡ 2 * epoch + 1)) ∥₁

abbrev pub Looked : State → Polled → State → Type 0
Looked s Clear t = t ≡ with_clear_below s s.mutators
Looked s (StillOpen k epoch) t = StopsLooking s t k epoch
