-- The book empties a finished or an offered job, if its word is still the one awaited.
use Rattle.std.specs.Prelude.{◌≡◌, ◌≢◌, ◌<◌, ◌^◌, ◌==◌, ◌&&◌, if◌then◌else◌, ℕ, Bool, true, false, nat_lt, Option, Some, None}
use Rattle.far_word.specs.declared.job.JobWord.{JobWord}
use Rattle.far_word.specs.declared.job.JobWord.TheVariants.{Empty, Offered, Taken, Finished}
use Rattle.far_word.specs.declared.sizes.TheConstants.{JOBS}
use Rattle.far_word.specs.Job.{job_of}
use Rattle.far_events.specs.declared.event.Reply.{Reply}
use Rattle.far_events.specs.declared.event.Reply.TheVariants.{Done, Word}
use Rattle.far_events.specs.state.State.{State, put}
use Rattle.far_events.specs.events.Claim.{exchange_stays}
use Rattle.far_events.specs.events.Touch.{JobAt, NoPart}
use Rattle.far_events.specs.events.Rule.{Rule, Form}

-- no copier has the job
abbrev pub is_loose : Option JobWord → Bool
is_loose None = false
is_loose (Some Empty) = false
is_loose (Some (Offered job)) = true
is_loose (Some (Taken job c)) = false
is_loose (Some (Finished job c)) = true

abbrev pub collected : State → ℕ → State
collected s j = record s { copying = record s.copying { word = put s.copying.word j 0 } }

abbrev pub CollectReports : State → ℕ → ℕ → Reply → State → Type 0
CollectReports s j old Done t = (s.copying.word j ≡ old) × (t.copying.word j ≡ 0)
CollectReports s j old (Word w) t = (w ≡ s.copying.word j) × (w ≢ old) × (t ≡ s)
CollectReports s j old r t = ⊥

abbrev pub collect_rule : State → ℕ → ℕ → Rule
collect_rule s j old = record {
  test = nat_lt j JOBS && is_loose (job_of old);
  after = if s.copying.word j == old then collected s j else s;
  answer = if s.copying.word j == old then Done else Word (s.copying.word j);
  Legal = (j < JOBS) × (is_loose (job_of old) ≡ true);
  Reports = CollectReports s j old;
  touches = record { word = Some (JobAt j); part = NoPart };
}

abbrev pub collect_form : ℕ → Form
collect_form old = record { Fits = old < 2 ^ 64; change = exchange_stays }
