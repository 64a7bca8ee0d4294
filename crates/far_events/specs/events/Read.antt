-- A copier reads a data word of its job's source, and remembers it.
use Rattle.std.specs.Prelude.{◌≡◌, ◌<◌, ℕ, Option, Some, None}
use Rattle.far_events.specs.declared.event.Reply.{Reply}
use Rattle.far_events.specs.declared.event.Reply.TheVariants.{Word}
use Rattle.far_events.specs.declared.event.Task.{Task}
use Rattle.far_events.specs.state.Jobs.{job_words, source}
use Rattle.far_events.specs.state.State.{State, put}
use Rattle.far_events.specs.events.Tasks.{HasTask, is_task_word}
use Rattle.far_events.specs.events.Touch.{CopierAt}
use Rattle.far_events.specs.events.Rule.{Rule, Form, only_word}

abbrev pub source_of : State → Option Task → ℕ → ℕ
source_of s None i = 0
source_of s (Some t) i = source s.word t.job i

abbrev pub after_read : State → ℕ → ℕ → ℕ → State
after_read s c i w = record s { copying = record s.copying { read = put s.copying.read c (put (s.copying.read c) i (Some w)) } }

abbrev pub ReadReports : State → ℕ → ℕ → Reply → State → Type 0
ReadReports s c i (Word w) t = (w ≡ source_of s (s.copying.task c) i) × (t.copying.read c i ≡ Some w)
ReadReports s c i r t = ⊥

abbrev pub read_rule : State → ℕ → ℕ → Rule
read_rule s c i = record {
  test = is_task_word s (s.copying.task c) i;
  after = after_read s c i (source_of s (s.copying.task c) i);
  answer = Word (source_of s (s.copying.task c) i);
  Legal = (t : Task) × HasTask s c t × (i < job_words s.word t.job);
  Reports = ReadReports s c i;
  touches = record { word = None; part = CopierAt c };
}

abbrev pub read_form : Form
read_form = record { Fits = Unit {0}; change = only_word }
