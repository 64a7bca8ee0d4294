-- What holds between two calls, beside the law: each pointer that is named is used by its owner, since a drop is retired at once.
use Rattle.std.specs.Prelude.{◌≡◌, ◌≢◌, ℕ, true}
use Rattle.far_events.specs.state.State.{State}

pub record Between (s : State) : Type 0 where
  pub named : (p : ℕ) → s.cell p ≢ 0 → s.used p ≡ true
