-- The book reads the cell of a pointer.
use Rattle.std.specs.Prelude.{◌≡◌, ◌*◌, ◌<◌, ℕ, nat_lt, None}
use Rattle.far_word.specs.declared.sizes.TheConstants.{CELLS}
use Rattle.far_events.specs.declared.event.Reply.{Reply}
use Rattle.far_events.specs.declared.event.Reply.TheVariants.{Word}
use Rattle.far_events.specs.state.State.{State}
use Rattle.far_events.specs.events.Touch.{NoPart}
use Rattle.far_events.specs.events.Rule.{Rule, Form, only_word}

abbrev pub SeeReports : State → ℕ → Reply → State → Type 0
SeeReports s p (Word w) t = (w ≡ s.cell p) × (t ≡ s)
SeeReports s p r t = ⊥

abbrev pub see_rule : State → ℕ → Rule
see_rule s p = record {
  test = nat_lt p (CELLS * s.mutators);
  after = s;
  answer = Word (s.cell p);
  Legal = p < CELLS * s.mutators;
  Reports = SeeReports s p;
  touches = record { word = None; part = NoPart };
}

abbrev pub see_form : ℕ → Form
see_form p = record { Fits = Unit {0}; change = only_word }
