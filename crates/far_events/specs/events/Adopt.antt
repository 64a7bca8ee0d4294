-- An owner uses a pointer of its own.
use Rattle.std.specs.Prelude.{◌≡◌, ◌/◌, ◌<◌, ◌==◌, ◌&&◌, ℕ, true, false, not, nat_lt, None}
use Rattle.far_word.specs.declared.sizes.TheConstants.{CELLS}
use Rattle.far_word.specs.Pointer.{read_of}
use Rattle.far_events.specs.declared.event.Reply.{Reply}
use Rattle.far_events.specs.declared.event.Reply.TheVariants.{Word}
use Rattle.far_events.specs.state.State.{State, put}
use Rattle.far_events.specs.state.Law.{in_use}
use Rattle.far_events.specs.events.Touch.{Uses}
use Rattle.far_events.specs.events.Rule.{Form, only_word, Rule}

abbrev pub AdoptReports : State → ℕ → ℕ → Reply → State → Type 0
AdoptReports s m p (Word w) t = (w ≡ s.cell p) × (t.cell p ≡ s.cell p) × (t.used p ≡ true)
AdoptReports s m p r t = ⊥

abbrev pub adopt_rule : State → ℕ → ℕ → Rule
adopt_rule s m p = record {
  test = nat_lt m s.mutators && (p / CELLS == m) && not (s.used p) && in_use (read_of (s.cell p));
  after = record s { used = put s.used p true };
  answer = Word (s.cell p);
  Legal = (m < s.mutators) × (p / CELLS ≡ m) × (s.used p ≡ false) × (in_use (read_of (s.cell p)) ≡ true);
  Reports = AdoptReports s m p;
  touches = record { word = None; part = Uses p };
}

abbrev pub adopt_form : ℕ → ℕ → Form
adopt_form m p = record { Fits = Unit {0}; change = only_word }
