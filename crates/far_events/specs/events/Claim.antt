-- A copier takes an offered job, where copiers may have jobs, if its word is still the one awaited.
use Rattle.std.specs.Prelude.{◌≡◌, ◌≢◌, ◌<◌, ◌^◌, ◌==◌, ◌&&◌, if◌then◌else◌, ℕ, false, true, not, is_some, nat_lt, Option, Some, None}
use Rattle.far_word.specs.declared.job.Job.{Job}
use Rattle.far_word.specs.declared.job.JobWord.{JobWord}
use Rattle.far_word.specs.declared.job.JobWord.TheVariants.{Empty, Offered, Taken, Finished}
use Rattle.far_word.specs.declared.sizes.TheConstants.{JOBS, MOST_COPIERS}
use Rattle.far_word.specs.Job.{job_of, job_word}
use Rattle.far_events.specs.declared.event.Reply.{Reply}
use Rattle.far_events.specs.declared.event.Reply.TheVariants.{Done, Word}
use Rattle.far_events.specs.state.State.{State, put}
use Rattle.far_events.specs.events.Changes.{Change, Stays}
use Rattle.far_events.specs.events.Touch.{JobAt, CopierAt}
use Rattle.far_events.specs.events.Rule.{Rule, Form}

-- the job that a word offers
abbrev pub offered_in : Option JobWord → Option Job
offered_in None = None
offered_in (Some Empty) = None
offered_in (Some (Offered job)) = Some job
offered_in (Some (Taken job c)) = None
offered_in (Some (Finished job c)) = None

-- the job is the copier's, which has read and written nothing of it
abbrev pub claimed : State → ℕ → ℕ → Job → State
claimed s c j job = record s {
  copying = record s.copying {
    word = put s.copying.word j (job_word (Taken job c));
    task = put s.copying.task c (Some record { number = j; job = job });
    length = put s.copying.length c None;
    read = put s.copying.read c (λ _. None);
    written = put s.copying.written c (λ _. false);
  };
}

abbrev pub after_claim : State → ℕ → ℕ → Option Job → State
after_claim s c j None = s
after_claim s c j (Some job) = claimed s c j job

-- the job is the copier's alone: its word says so, and the copier has it, with nothing read and nothing written
abbrev pub Claims : ℕ → ℕ → Option Job → State → Type 0
Claims c j None t = ⊥
Claims c j (Some job) t = (job_of (t.copying.word j) ≡ Some (Taken job c)) × (t.copying.task c ≡ Some (record { number = j; job = job }))
    × (t.copying.length c ≡ None) × ((i : ℕ) → (t.copying.read c i ≡ None) × (t.copying.written c i ≡ false))

-- a claim that wins found the awaited word; one that loses found another, and changes nothing
abbrev pub ClaimReports : State → ℕ → ℕ → ℕ → Reply → State → Type 0
ClaimReports s c j old Done t = (s.copying.word j ≡ old) × Claims c j (offered_in (job_of old)) t
ClaimReports s c j old (Word w) t = (w ≡ s.copying.word j) × (w ≢ old) × (t ≡ s)
ClaimReports s c j old r t = ⊥

abbrev pub IsOffer : ℕ → Type 0
IsOffer old = (job : Job) × (job_of old ≡ Some (Offered job))

abbrev pub claim_rule : State → ℕ → ℕ → ℕ → Rule
claim_rule s c j old = record {
  test = nat_lt c MOST_COPIERS && nat_lt j JOBS && not (is_some (s.copying.task c)) && is_some (offered_in (job_of old)) && s.copying.has_copiers;
  after = if s.copying.word j == old then after_claim s c j (offered_in (job_of old)) else s;
  answer = if s.copying.word j == old then Done else Word (s.copying.word j);
  Legal = (c < MOST_COPIERS) × (j < JOBS) × (s.copying.task c ≡ None) × IsOffer old × (s.copying.has_copiers ≡ true);
  Reports = ClaimReports s c j old;
  touches = record { word = Some (JobAt j); part = CopierAt c };
}

-- an exchange of a job's word, won or lost
abbrev pub exchange_stays : Reply → Option Change
exchange_stays Done = Some Stays
exchange_stays (Word x) = Some Stays
exchange_stays r = None

abbrev pub claim_form : ℕ → Form
claim_form old = record { Fits = old < 2 ^ 64; change = exchange_stays }
