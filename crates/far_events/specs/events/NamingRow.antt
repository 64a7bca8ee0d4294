-- What a form of naming is in a state.
use Rattle.std.specs.Prelude.{Bool}
use Rattle.far_events.specs.state.State.{State}

-- whether it may be made, as a test and as a fact; the state after it, where the cell was the old word; and what this reports
-- of the state after, beside that the cell is the new word
pub record NamingRow : Type 1 where
  pub test : Bool
  pub after : State
  pub Legal : Type 0
  pub Reports : State → Type 0
