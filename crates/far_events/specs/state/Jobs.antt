-- What is true of jobs and copiers in every state.
use Rattle.std.specs.Prelude.{◌≡◌, ◌≢◌, ℕ, ◌+◌, ◌-◌, ◌*◌, ◌/◌, ◌^◌, ◌<◌, ◌≤◌, Bool, true, false, Option, Some, None, IsSome}
use Rattle.far_word.specs.declared.job.Job.{Job}
use Rattle.far_word.specs.declared.job.JobWord.{JobWord}
use Rattle.far_word.specs.declared.job.JobWord.TheVariants.{Empty, Offered, Taken, Finished}
use Rattle.far_word.specs.declared.pointer.Place.{Place}
use Rattle.far_word.specs.declared.pointer.PtrWord.{PtrWord}
use Rattle.far_word.specs.declared.pointer.PtrWord.TheVariants as pointer
use Rattle.far_word.specs.declared.sizes.TheConstants.{CELLS, JOBS}
use Rattle.far_word.specs.Header.{head_of}
use Rattle.far_word.specs.Job.{job_of}
use Rattle.far_word.specs.Pointer.{read_of}
use Rattle.far_word.specs.Sizes.{words_for}
use Rattle.far_log.specs.Spans.{head_len, pointer_in}
use Rattle.far_events.specs.declared.event.Task.{Task}
use Rattle.far_events.specs.state.State.{Copying, addr}

-- the job that a word says
abbrev pub job_said : Option JobWord → Option Job
job_said None = None
job_said (Some Empty) = None
job_said (Some (Offered job)) = Some job
job_said (Some (Taken job c)) = Some job
job_said (Some (Finished job c)) = Some job

abbrev pub is_finished : Option JobWord → Bool
is_finished None = false
is_finished (Some Empty) = false
is_finished (Some (Offered job)) = false
is_finished (Some (Taken job c)) = false
is_finished (Some (Finished job c)) = true

abbrev pub job_at : (ℕ → ℕ) → ℕ → Option Job
job_at jobs j = job_said (job_of (jobs j))

-- where a cell's object lies
abbrev pub near_place : Option PtrWord → Option Place
near_place None = None
near_place (Some pointer.Free) = None
near_place (Some (pointer.Near len ds place m)) = Some place
near_place (Some (pointer.Far len ds m)) = None

-- the round in which the job was offered lasts, and the source's log is in it still
abbrev pub IsGood : ℕ → (ℕ → Bool) → (ℕ → ℕ) → ℕ → Job → Type 0
IsGood epoch round since j job = (since j ≡ epoch) × (round job.from.log ≡ true)

-- how many data words the object of a job has
abbrev pub job_words : (ℕ → ℕ) → Job → ℕ
job_words word job = words_for (head_len (word (addr job.from)))

-- word i of the source, and of the target
abbrev pub source : (ℕ → ℕ) → Job → ℕ → ℕ
source word job i = word (addr job.from + 1 + i)

abbrev pub target : (ℕ → ℕ) → Job → ℕ → ℕ
target word job i = word (addr job.to + 1 + i)

-- at both places of a job a span begins, with one header, which names the job's pointer
pub record JobSpans (word : ℕ → ℕ) (starts : ℕ → Bool) (job : Job) : Type 0 where
  pub pointer : pointer_in (head_of (word (addr job.from))) ≡ job.pointer
  pub alike : word (addr job.to) ≡ word (addr job.from)
  pub from : starts (addr job.from) ≡ true
  pub to : starts (addr job.to) ≡ true

-- each job word is on the layout; its spans stand; no two jobs have one target, and a target that isn't named yet is no job's source; only
-- of a finished job the target may be named
pub record JobLaw (word : ℕ → ℕ) (starts : ℕ → Bool) (jobs : ℕ → ℕ) (named : ℕ → Bool) : Type 0 where
  pub job_read : (j : ℕ) → (jobs j < 2 ^ 64) × IsSome (job_of (jobs j))
  pub job_range : (j : ℕ) → jobs j ≢ 0 → j < JOBS
  pub job_spans : (j : ℕ) (job : Job) → job_at jobs j ≡ Some job → JobSpans word starts job
  pub targets_differ : (i j : ℕ) (a b : Job) → job_at jobs i ≡ Some a → job_at jobs j ≡ Some b → a.to ≡ b.to → i ≡ j
  pub target_no_source : (i j : ℕ) (a b : Job) → job_at jobs i ≡ Some a → job_at jobs j ≡ Some b → named i ≡ false → a.to ≢ b.from
  pub unfinished_unnamed : (j : ℕ) (job : Job) → job_at jobs j ≡ Some job → is_finished (job_of (jobs j)) ≡ false → named j ≡ false

-- a job is taken by the copier that has it, and a copier has the job that it has taken; the length that it has read is the source's, and the
-- words are the object's, with zeros after the last byte
pub record TakenLaw (word jobs : ℕ → ℕ) (task : ℕ → Option Task) (length : ℕ → Option ℕ) (read : ℕ → ℕ → Option ℕ) : Type 0 where
  pub taken_by : (j c : ℕ) (job : Job) → job_of (jobs j) ≡ Some (Taken job c) → task c ≡ Some (record { number = j; job = job })
  pub takes : (c : ℕ) (t : Task) → task c ≡ Some t → job_of (jobs t.number) ≡ Some (Taken t.job c)
  pub long : (c n : ℕ) (t : Task) → task c ≡ Some t → length c ≡ Some n → n ≡ head_len (word (addr t.job.from))
  pub fits : (c i w : ℕ) (t : Task) → task c ≡ Some t → read c i ≡ Some w → (i < job_words word t.job) × (w < 2 ^ 64) × (w < 2 ^ (8 * (head_len (word (addr t.job.from)) - 8 * i)))

-- a pointer names no target before it was named to it, and no source after
pub record AimLaw (cell jobs : ℕ → ℕ) (named : ℕ → Bool) : Type 0 where
  pub unnamed : (j : ℕ) (job : Job) → job_at jobs j ≡ Some job → named j ≡ false → near_place (read_of (cell job.pointer)) ≢ Some job.to
  pub left : (j : ℕ) (job : Job) → job_at jobs j ≡ Some job → named j ≡ true → near_place (read_of (cell job.pointer)) ≢ Some job.from

-- jobs are of rounds that have begun; of a good one the owner was seen clear, and the target lies outside the round
pub record GoodLaw (epoch : ℕ) (round clear : ℕ → Bool) (jobs since : ℕ → ℕ) : Type 0 where
  pub begun : (j : ℕ) → since j ≤ epoch
  pub seen : (j : ℕ) (job : Job) → job_at jobs j ≡ Some job → IsGood epoch round since j job → clear (job.pointer / CELLS) ≡ true
  pub outside : (j : ℕ) (job : Job) → job_at jobs j ≡ Some job → IsGood epoch round since j job → round job.to.log ≡ false

-- of a good job the words that its copier has read are the source's, those that it has written are at the target too; once it is finished all
-- are, until its pointer is named to the target
pub record SameLaw (epoch : ℕ) (round : ℕ → Bool) (word jobs since : ℕ → ℕ) (named : ℕ → Bool) (task : ℕ → Option Task) (got : ℕ → ℕ → Option ℕ) (put : ℕ → ℕ → Bool) : Type 0 where
  pub read : (c i w : ℕ) (t : Task) → task c ≡ Some t → IsGood epoch round since t.number t.job → got c i ≡ Some w → source word t.job i ≡ w
  pub written : (c i : ℕ) (t : Task) → task c ≡ Some t → IsGood epoch round since t.number t.job → put c i ≡ true → i < job_words word t.job → target word t.job i ≡ source word t.job i
  pub finished : (j c : ℕ) (job : Job) → job_of (jobs j) ≡ Some (Finished job c) → IsGood epoch round since j job → named j ≡ false →
      (i : ℕ) → i < job_words word job → target word job i ≡ source word job i

abbrev pub SameAs : ℕ → (ℕ → Bool) → (ℕ → ℕ) → Copying → Type 0
SameAs epoch round word k = SameLaw epoch round word k.word k.since k.named k.task k.read k.written

-- all of it
pub record CopyLaw (cell word : ℕ → ℕ) (starts round : ℕ → Bool) (epoch : ℕ) (clear : ℕ → Bool) (k : Copying) : Type 0 where
  pub jobs : JobLaw word starts k.word k.named
  pub taken : TakenLaw word k.word k.task k.length k.read
  pub aims : AimLaw cell k.word k.named
  pub good : GoodLaw epoch round clear k.word k.since
  pub same : SameAs epoch round word k
