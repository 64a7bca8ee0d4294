-- What becomes of the jobs of copiers when they are collected, or taken back.
use Rattle.std.specs.Prelude.{◌≡◌, ◌≢◌, ◌⊎◌, ◌+◌, ◌<◌, ◌||◌, ℕ, zero, suc, Bool, true, false, not, cond, Option, Some, None}
use Rattle.far_word.specs.declared.job.Job.{Job}
use Rattle.far_word.specs.declared.job.JobWord.{JobWord}
use Rattle.far_word.specs.declared.job.JobWord.TheVariants.{Empty, Offered, Taken, Finished}
use Rattle.far_word.specs.declared.mark.Marks.{Marks}
use Rattle.far_word.specs.declared.pointer.Place.{Place}
use Rattle.far_word.specs.declared.pointer.PtrWord.{PtrWord}
use Rattle.far_word.specs.declared.pointer.PtrWord.TheVariants.{Free, Near, Far}
use Rattle.far_word.specs.declared.sizes.TheConstants.{JOBS}
use Rattle.far_word.specs.Job.{job_of}
use Rattle.far_word.specs.Pointer.{read_of}
use Rattle.far_events.specs.declared.event.Event.TheVariants.{Name}
use Rattle.far_events.specs.events.Collect.{collected}
use Rattle.far_events.specs.events.Naming.{is_dropped, unmarked}
use Rattle.far_events.specs.events.Step.{after}
use Rattle.far_core.specs.laws.Taking.{IsVoid}
use Rattle.far_events.specs.state.Jobs.{IsGood, is_finished, job_at, near_place}
use Rattle.far_events.specs.state.Law.{Law}
use Rattle.far_events.specs.state.Spans.{names_place}
use Rattle.far_events.specs.state.State.{State}
use Rattle.far_hand.specs.Finds.{Finds}
use Rattle.far_hand.specs.FindsJob.{FindsJob, job_found}
use Rattle.far_hand.specs.Known.{Forgets}
use Rattle.far_book.specs.book.Effects.{near_word}
use Rattle.far_book.specs.book.Jobs.{is_good}
use Rattle.far_book.specs.book.Own.{own_part}
use Rattle.far_book.specs.book.Renaming.{seen}

-- what may become of a job: it stays as it is, or is empty, or its pointer is named to its target and it is empty
pub data Fate : Type 0 where
  Stays : Fate
  Empties : Fate
  Names : Fate

abbrev pub is_named : Fate → Bool
is_named Stays = false
is_named Empties = false
is_named Names = true

-- ---- one job
-- it isn't to be named any more: the round of its offer is over, or its source's log left the round, or its pointer's cell doesn't name the source
abbrev pub is_void : State → ℕ → Job → Option PtrWord → Bool
is_void s j job cell = not (is_good s.round_epoch s.round s.copying.since j job) || not (names_place cell job.from.log job.from.at)

-- by what its word says, whether it is void, and whether its object is dropped
abbrev pub fate_of : Option JobWord → Bool → Bool → Fate
fate_of None void dropped = Stays
fate_of (Some Empty) void dropped = Stays
fate_of (Some (Offered job)) void dropped = cond void Empties Stays
fate_of (Some (Taken job c)) void dropped = Stays
fate_of (Some (Finished job c)) void dropped = cond (void || dropped) Empties Names

abbrev pub fate_in : State → ℕ → Job → ℕ → ℕ → Fate
fate_in s j job word cell = fate_of (job_of word) (is_void s j job (read_of cell)) (is_dropped (read_of cell))

-- p's near object is named to a place, to which it was copied: its cell says near there, without marks but DIRTY, as it was, and its old span is dead
abbrev pub named_of : State → ℕ → Place → Option PtrWord → State
named_of s p to None = s
named_of s p to (Some Free) = s
named_of s p to (Some (Near len ds from marks)) = after s (Name p (s.cell p) (near_word marks.dirty len ds to))
named_of s p to (Some (Far len ds marks)) = s

abbrev pub named : State → ℕ → Place → State
named s p to = named_of s p to (read_of (s.cell p))

abbrev pub made_of : State → ℕ → Job → Fate → State
made_of s j job Stays = s
made_of s j job Empties = collected s j
made_of s j job Names = collected (named s job.pointer job.to) j

-- these words were found of the job, and in its pointer's cell
abbrev pub found_so : State → ℕ → Job → ℕ → ℕ → State
found_so s j job word cell = seen (job_found s j word) job.pointer cell

abbrev pub gone_so : State → ℕ → Job → ℕ → ℕ → State
gone_so s j job word cell = made_of (found_so s j job word cell) j job (fate_in s j job word cell)

-- from s to t a job went as the words say that were found last; and whether it was named. Words of the logs may have been forgotten
pub record GoesAsFound (s t : State) (j : ℕ) (job : Job) (names : Bool) : Type 0 where
  pub word : ℕ
  pub finds : FindsJob (s.copying.word j) word
  pub cell : ℕ
  pub sees : Finds (s.cell job.pointer) cell
  pub leads : t ≡ record (gone_so s j job word cell) { word = t.word }
  pub forgot : Forgets (gone_so s j job word cell) t
  pub counted : names ≡ is_named (fate_in s j job word cell)

abbrev pub CollectsKnown : State → State → ℕ → Option Job → Bool → Type 0
CollectsKnown s t j None names = (t ≡ s) × (names ≡ false)
CollectsKnown s t j (Some job) names = GoesAsFound s t j job names

abbrev pub CollectsJob : State → State → ℕ → Bool → Type 0
CollectsJob s t j names = CollectsKnown s t j (job_at s.copying.word j) names

-- ---- the first n jobs, one after the other; and how many were named
abbrev pub more : Bool → ℕ → ℕ
more names n = cond names (n + 1) n

abbrev pub Collects : State → ℕ → State → ℕ → Type 0
Collects s zero t count = (t ≡ s) × (count ≡ 0)
Collects s (suc n) t count = (u : State) × (before : ℕ) × (names : Bool) × Collects s n u before × CollectsJob u t n names × (count ≡ more names before)

-- ---- the same where no word changes but by the book's calls
abbrev pub goes_known : State → ℕ → Option Job → State × Bool
goes_known s j None = (s, false)
goes_known s j (Some job) = let fate = fate_in s j job (s.copying.word j) (s.cell job.pointer) in (made_of s j job fate, is_named fate)

abbrev pub goes : State → ℕ → State × Bool
goes s j = goes_known s j (job_at s.copying.word j)

abbrev pub all_collected : State → ℕ → State × ℕ
all_collected s zero = (s, 0)
all_collected s (suc n) = let x = all_collected s n in let y = goes x.0 n in (y.0, more y.1 x.1)

-- ---- taking back
-- a job that is found offered is empty, and any other stays
abbrev pub taken_back : State → ℕ → ℕ → Option JobWord → State
taken_back s j word None = job_found s j word
taken_back s j word (Some Empty) = job_found s j word
taken_back s j word (Some (Offered job)) = collected (job_found s j word) j
taken_back s j word (Some (Taken job c)) = job_found s j word
taken_back s j word (Some (Finished job c)) = job_found s j word

-- from s to t a job was looked at, and taken back where it was found offered
pub record GoesBack (s t : State) (j : ℕ) : Type 0 where
  pub word : ℕ
  pub finds : FindsJob (s.copying.word j) word
  pub is : t ≡ taken_back s j word (job_of word)

-- one that isn't empty
abbrev pub BackKnown : State → State → ℕ → Option Job → Type 0
BackKnown s t j None = t ≡ s
BackKnown s t j (Some job) = GoesBack s t j

-- the first n jobs, one after the other
abbrev pub TakesBack : State → ℕ → State → Type 0
TakesBack s zero t = t ≡ s
TakesBack s (suc n) t = (u : State) × TakesBack s n u × BackKnown u t n (job_at u.copying.word n)

abbrev pub back_known : State → ℕ → Option Job → State
back_known s j None = s
back_known s j (Some job) = taken_back s j (s.copying.word j) (job_of (s.copying.word j))

abbrev pub all_back : State → ℕ → State
all_back s zero = s
all_back s (suc n) = let u = all_back s n in back_known u n (job_at u.copying.word n)

-- ---- laws
-- no job is known to be finished once all were collected
abbrev pub NoneFinished : Type 0
NoneFinished = (s t : State) (count : ℕ) → Collects s JOBS t count → (j : ℕ) → j < JOBS → is_finished (job_of (t.copying.word j)) ≡ false

-- no job is known to be offered once all were taken back
abbrev pub NoneOffered : Type 0
NoneOffered = (s t : State) → TakesBack s JOBS t → (j : ℕ) (job : Job) → j < JOBS → job_of (t.copying.word j) ≢ Some (Offered job)

-- a job that was named was found finished; the round of its offer stood, and its object lay at its source, and wasn't known to be dropped. Now the pointer
-- names its target, as long and of the same data structure as it was found, without marks but DIRTY, as found too; and the job is empty
pub record IsCopyNamed (s t : State) (j : ℕ) (job : Job) : Type 0 where
  pub word : ℕ
  pub found : FindsJob (s.copying.word j) word
  pub copier : ℕ
  pub finished : job_of word ≡ Some (Finished job copier)
  pub good : IsGood s.round_epoch s.round s.copying.since j job
  pub lay : near_place (read_of (s.cell job.pointer)) ≡ Some job.from
  pub alive : is_dropped (read_of (s.cell job.pointer)) ≡ false
  pub cell : ℕ
  pub sees : Finds (s.cell job.pointer) cell
  pub lies : (len ds : ℕ) × (marks : Marks) × (read_of cell ≡ Some (Near len ds job.from marks)) × (read_of (t.cell job.pointer) ≡ Some (Near len ds job.to (unmarked marks.dirty)))
  pub empty : t.copying.word j ≡ 0

abbrev pub NamedAreCopies : Type 0
NamedAreCopies = (s t : State) (j : ℕ) (job : Job) → Law (own_part s) → job_at s.copying.word j ≡ Some job → GoesAsFound s t j job true → IsCopyNamed s t j job

-- a job that is empty and wasn't named is void; or it was found finished, and its object dropped. So an offered one that isn't void stays, whatever its owner asks
abbrev pub EmptiedAreVoid : Type 0
EmptiedAreVoid = (s t : State) (j : ℕ) (job : Job) → Law (own_part s) → job_at s.copying.word j ≡ Some job → (h : GoesAsFound s t j job false) → t.copying.word j ≡ 0 →
    IsVoid s j job ⊎ ((is_finished (job_of h.word) ≡ true) × (is_dropped (read_of h.cell) ≡ true))

-- ---- what one try leaves
-- from s to t a job's pointer was named to its target, by a word without DROP that was found in its cell; words may have been forgotten
pub record IsNamed (s t : State) (job : Job) : Type 0 where
  pub cell : ℕ
  pub sees : Finds (s.cell job.pointer) cell
  pub alive : is_dropped (read_of cell) ≡ false
  pub leads : t ≡ record (named (seen s job.pointer cell) job.pointer job.to) { word = t.word }
  pub forgot : Forgets (named (seen s job.pointer cell) job.pointer job.to) t

-- from s to t its owner was found to have dropped the object, and nothing else has changed
pub record IsDropped (s t : State) (job : Job) : Type 0 where
  pub cell : ℕ
  pub sees : Finds (s.cell job.pointer) cell
  pub dropped : is_dropped (read_of cell) ≡ true
  pub is : t ≡ seen s job.pointer cell

-- a job may be named: it is finished and good, its object lies at its source, and isn't dropped
pub record MayBeNamed (s : State) (j : ℕ) (job : Job) (cell : ℕ) : Type 0 where
  pub number : j < JOBS
  pub copier : ℕ
  pub finished : job_of (s.copying.word j) ≡ Some (Finished job copier)
  pub good : is_good s.round_epoch s.round s.copying.since j job ≡ true
  pub found : cell ≡ s.cell job.pointer
  pub lies : names_place (read_of cell) job.from.log job.from.at ≡ true
  pub alive : is_dropped (read_of cell) ≡ false
