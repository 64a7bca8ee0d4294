-- What is true of each moment of an output.
use Rattle.std.specs.Prelude.{◌≡◌, ◌≢◌, ℕ, false, true}
use Rattle.far_events.specs.state.Law.{Law}
use Rattle.far_evac.specs.MomentLaw.{MomentLaw}
use Rattle.far_replay.specs.Answers.{IsMoment}
use Rattle.far_replay.specs.Moment.{Moment}

-- what is true of each moment of an output: the law of its core and that of its round hold, and each pointer that is named is used by its owner
pub record Lawful (now : Moment) : Type 0 where
  pub reached : IsMoment now
  pub law : Law now.core
  pub round : MomentLaw now
  -- nothing is offered to copiers
  pub alone : now.copying ≡ false
  pub named : (p : ℕ) → now.core.cell p ≢ 0 → now.core.used p ≡ true
