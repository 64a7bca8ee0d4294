-- A copier that has written all words says so, and has no job.
use Rattle.std.specs.Prelude.{◌≡◌, ℕ, Option, Some, None}
use Rattle.far_word.specs.declared.job.JobWord.TheVariants.{Finished}
use Rattle.far_word.specs.Job.{job_of, job_word}
use Rattle.far_events.specs.declared.event.Reply.{Reply}
use Rattle.far_events.specs.declared.event.Reply.TheVariants.{Done}
use Rattle.far_events.specs.declared.event.Task.{Task}
use Rattle.far_events.specs.state.Jobs.{job_words}
use Rattle.far_events.specs.state.State.{State, put}
use Rattle.far_events.specs.events.Tasks.{AllWritten, HasTask, task_written}
use Rattle.far_events.specs.events.Touch.{Spot, JobAt, CopierAt}
use Rattle.far_events.specs.events.Write.{write_stays}
use Rattle.far_events.specs.events.Rule.{Rule, Form}

abbrev pub finished : State → ℕ → Task → State
finished s c t = record s { copying = record s.copying { word = put s.copying.word t.number (job_word (Finished t.job c)); task = put s.copying.task c None } }

abbrev pub after_finish : State → ℕ → Option Task → State
after_finish s c None = s
after_finish s c (Some t) = finished s c t

abbrev pub job_spot : Option Task → Option Spot
job_spot None = None
job_spot (Some t) = Some (JobAt t.number)

abbrev pub Finishes : ℕ → Option Task → State → Type 0
Finishes c None t = ⊥
Finishes c (Some x) t = (job_of (t.copying.word x.number) ≡ Some (Finished x.job c)) × (t.copying.task c ≡ None)

abbrev pub FinishReports : State → ℕ → Reply → State → Type 0
FinishReports s c Done t = Finishes c (s.copying.task c) t
FinishReports s c r t = ⊥

abbrev pub finish_rule : State → ℕ → Rule
finish_rule s c = record {
  test = task_written s c (s.copying.task c);
  after = after_finish s c (s.copying.task c);
  answer = Done;
  Legal = (t : Task) × HasTask s c t × AllWritten (s.copying.written c) (job_words s.word t.job);
  Reports = FinishReports s c;
  touches = record { word = job_spot (s.copying.task c); part = CopierAt c };
}

abbrev pub finish_form : Form
finish_form = record { Fits = Unit {0}; change = write_stays }
