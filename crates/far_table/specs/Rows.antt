-- Rows of numbers and what stands there, newest first.
use Rattle.std.specs.Prelude.{ℕ, List, [], ◌∷◌}
use Rattle.far_events.specs.state.State.{put}

-- the function that rows make of another, which says what stands where no row does
abbrev pub over : {X : Type 0} → List (ℕ × X) → (ℕ → X) → ℕ → X
over [] f = f
over (row ∷ rows) f = put (over rows f) row.0 row.1
