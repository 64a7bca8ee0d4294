-- A copier reads the word of a job.
use Rattle.std.specs.Prelude.{◌<◌, ◌&&◌, ℕ, nat_lt, None}
use Rattle.far_word.specs.declared.sizes.TheConstants.{JOBS, MOST_COPIERS}
use Rattle.far_events.specs.declared.event.Reply.TheVariants.{Word}
use Rattle.far_events.specs.state.State.{State}
use Rattle.far_events.specs.events.SeeJob.{JobReports}
use Rattle.far_events.specs.events.Touch.{NoPart}
use Rattle.far_events.specs.events.Rule.{Rule, Form, only_word}

abbrev pub peek_job_rule : State → ℕ → ℕ → Rule
peek_job_rule s c j = record {
  test = nat_lt c MOST_COPIERS && nat_lt j JOBS;
  after = s;
  answer = Word (s.copying.word j);
  Legal = (c < MOST_COPIERS) × (j < JOBS);
  Reports = JobReports s j;
  touches = record { word = None; part = NoPart };
}

abbrev pub peek_job_form : Form
peek_job_form = record { Fits = Unit {0}; change = only_word }
