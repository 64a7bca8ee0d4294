-- The book reads the word of a job.
use Rattle.std.specs.Prelude.{◌≡◌, ◌<◌, ℕ, nat_lt, None}
use Rattle.far_word.specs.declared.sizes.TheConstants.{JOBS}
use Rattle.far_events.specs.declared.event.Reply.{Reply}
use Rattle.far_events.specs.declared.event.Reply.TheVariants.{Word}
use Rattle.far_events.specs.state.State.{State}
use Rattle.far_events.specs.events.Touch.{NoPart}
use Rattle.far_events.specs.events.Rule.{Rule, Form, only_word}

abbrev pub JobReports : State → ℕ → Reply → State → Type 0
JobReports s j (Word w) t = (w ≡ s.copying.word j) × (t ≡ s)
JobReports s j r t = ⊥

abbrev pub see_job_rule : State → ℕ → Rule
see_job_rule s j = record {
  test = nat_lt j JOBS;
  after = s;
  answer = Word (s.copying.word j);
  Legal = j < JOBS;
  Reports = JobReports s j;
  touches = record { word = None; part = NoPart };
}

abbrev pub see_job_form : Form
see_job_form = record { Fits = Unit {0}; change = only_word }
