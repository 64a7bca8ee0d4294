-- A copier reads the header of its job's source, and remembers the length.
use Rattle.std.specs.Prelude.{◌≡◌, ℕ, Option, Some, None, is_some}
use Rattle.far_log.specs.Spans.{head_len}
use Rattle.far_events.specs.declared.event.Reply.{Reply}
use Rattle.far_events.specs.declared.event.Reply.TheVariants.{Word}
use Rattle.far_events.specs.declared.event.Task.{Task}
use Rattle.far_events.specs.state.State.{State, addr, put}
use Rattle.far_events.specs.events.Tasks.{HasTask}
use Rattle.far_events.specs.events.Touch.{CopierAt}
use Rattle.far_events.specs.events.Rule.{Rule, Form, only_word}

abbrev pub header_of : State → Option Task → ℕ
header_of s None = 0
header_of s (Some t) = s.word (addr t.job.from)

abbrev pub after_length : State → ℕ → ℕ → State
after_length s c w = record s { copying = record s.copying { length = put s.copying.length c (Some (head_len w)) } }

abbrev pub LengthReports : State → ℕ → Reply → State → Type 0
LengthReports s c (Word w) t = (w ≡ header_of s (s.copying.task c)) × (t.copying.length c ≡ Some (head_len w))
LengthReports s c r t = ⊥

abbrev pub read_length_rule : State → ℕ → Rule
read_length_rule s c = record {
  test = is_some (s.copying.task c);
  after = after_length s c (header_of s (s.copying.task c));
  answer = Word (header_of s (s.copying.task c));
  Legal = (t : Task) × HasTask s c t;
  Reports = LengthReports s c;
  touches = record { word = None; part = CopierAt c };
}

abbrev pub read_length_form : Form
read_length_form = record { Fits = Unit {0}; change = only_word }
