-- The cell of a dropped object is free again; its span, if it had one, is dead from then on.
use Rattle.std.specs.Prelude.{◌≡◌, ℕ, true}
use Rattle.far_events.specs.state.State.{State, put}
use Rattle.far_events.specs.events.Changes.{Change, Stays}
use Rattle.far_events.specs.events.NamingRow.{NamingRow}

abbrev pub retires_row : State → ℕ → ℕ → NamingRow
retires_row s p new = record {
  test = true;
  after = record s { cell = put s.cell p new };
  Legal = Unit {0};
  Reports = λ t. t ≡ record s { cell = put s.cell p new };
}

-- a dropped object is none of the world's already
abbrev pub retires_change : Change
retires_change = Stays
