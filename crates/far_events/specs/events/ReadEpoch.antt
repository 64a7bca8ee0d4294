-- A closed owner remembers the epoch.
use Rattle.std.specs.Prelude.{◌≡◌, ℕ, Some, None, Option}
use Rattle.far_events.specs.declared.event.Reply.{Reply}
use Rattle.far_events.specs.declared.event.Reply.TheVariants.{Epoch}
use Rattle.far_events.specs.state.State.{State, put}
use Rattle.far_events.specs.events.Touch.{Remembers}
use Rattle.far_events.specs.events.Changes.{Change}
use Rattle.far_events.specs.events.Changes as change
use Rattle.far_events.specs.events.Rule.{Form, Rule}
use Rattle.far_events.specs.events.Owners.{is_closed, IsClosed}

abbrev pub ReadEpochReports : State → ℕ → Reply → State → Type 0
ReadEpochReports s m (Epoch e) t = (e ≡ s.epoch) × (t.remembered m ≡ Some e)
ReadEpochReports s m r t = ⊥

abbrev pub read_epoch_rule : State → ℕ → Rule
read_epoch_rule s m = record {
  test = is_closed s m;
  after = record s { remembered = put s.remembered m (Some s.epoch) };
  answer = Epoch s.epoch;
  Legal = IsClosed s m;
  Reports = ReadEpochReports s m;
  touches = record { word = None; part = Remembers m };
}

abbrev pub read_epoch_change : ℕ → Reply → Option Change
read_epoch_change m (Epoch e) = Some change.Stays
read_epoch_change m r = None

abbrev pub read_epoch_form : ℕ → Form
read_epoch_form m = record { Fits = Unit {0}; change = read_epoch_change m }
