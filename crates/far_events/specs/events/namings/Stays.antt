-- A near object whose owner asked for it to be moved, and whose log the book doesn't want, stays where it lies, unmarked.
use Rattle.std.specs.Prelude.{◌≡◌, ℕ, true}
use Rattle.far_events.specs.state.State.{State, put}
use Rattle.far_events.specs.events.Changes.{Change, Unmarks}
use Rattle.far_events.specs.events.NamingRow.{NamingRow}

abbrev pub stays_row : State → ℕ → ℕ → NamingRow
stays_row s p new = record {
  test = true;
  after = record s { cell = put s.cell p new };
  Legal = Unit {0};
  Reports = λ t. t ≡ record s { cell = put s.cell p new };
}

abbrev pub stays_change : ℕ → Change
stays_change p = Unmarks p
