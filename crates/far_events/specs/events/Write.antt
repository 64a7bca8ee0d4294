-- A copier writes a word that it has read to its job's target.
use Rattle.std.specs.Prelude.{◌≡◌, ◌+◌, ◌&&◌, ℕ, true, Option, Some, None, is_some}
use Rattle.far_events.specs.declared.event.Reply.{Reply}
use Rattle.far_events.specs.declared.event.Reply.TheVariants.{Done}
use Rattle.far_events.specs.declared.event.Task.{Task}
use Rattle.far_events.specs.state.State.{State, addr, put}
use Rattle.far_events.specs.events.Changes.{Change, Stays}
use Rattle.far_events.specs.events.Tasks.{HasTask}
use Rattle.far_events.specs.events.Touch.{WordAt, CopierAt}
use Rattle.far_events.specs.events.Rule.{Rule, Form}

-- where data word i of a task's target stands
abbrev pub target_at : Option Task → ℕ → ℕ
target_at None i = 0
target_at (Some t) i = addr t.job.to + 1 + i

abbrev pub got : Option ℕ → ℕ
got None = 0
got (Some w) = w

abbrev pub after_write : State → ℕ → ℕ → ℕ → ℕ → State
after_write s c i a w = record s { word = put s.word a w; copying = record s.copying { written = put s.copying.written c (put (s.copying.written c) i true) } }

abbrev pub WriteReports : State → ℕ → ℕ → Reply → State → Type 0
WriteReports s c i Done t = (s.copying.read c i ≡ Some (t.word (target_at (s.copying.task c) i))) × (t.copying.written c i ≡ true)
WriteReports s c i r t = ⊥

abbrev pub write_rule : State → ℕ → ℕ → Rule
write_rule s c i = record {
  test = is_some (s.copying.task c) && is_some (s.copying.read c i);
  after = after_write s c i (target_at (s.copying.task c) i) (got (s.copying.read c i));
  answer = Done;
  Legal = (t : Task) × (w : ℕ) × HasTask s c t × (s.copying.read c i ≡ Some w);
  Reports = WriteReports s c i;
  touches = record { word = Some (WordAt (target_at (s.copying.task c) i)); part = CopierAt c };
}

abbrev pub write_stays : Reply → Option Change
write_stays Done = Some Stays
write_stays r = None

abbrev pub write_form : Form
write_form = record { Fits = Unit {0}; change = write_stays }
