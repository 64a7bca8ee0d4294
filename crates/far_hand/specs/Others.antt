-- What others than the book may do to a state while it works: owners and copiers.
use Rattle.std.specs.Prelude.{◌≡◌, ◌⊎◌, ◌+◌, ◌<◌, ℕ, false, Option, Some, None, if◌then◌else◌}
use Rattle.far_word.specs.declared.job.Job.{Job}
use Rattle.far_word.specs.declared.mark.Marks.{Marks}
use Rattle.far_word.specs.declared.pointer.Place.{Place}
use Rattle.far_word.specs.declared.pointer.PtrWord.TheVariants.{Near}
use Rattle.far_word.specs.Job.{job_of}
use Rattle.far_word.specs.Pointer.{read_of}
use Rattle.far_word.specs.Sizes.{words_for}
use Rattle.far_events.specs.declared.event.Event.{Event}
use Rattle.far_events.specs.events.Step.{step_of}
use Rattle.far_events.specs.state.Jobs.{is_finished, job_at, job_words}
use Rattle.far_events.specs.state.Law.{is_dirty}
use Rattle.far_events.specs.state.State.{State, addr}
use Rattle.far_hand.specs.Beside.{IsBeside}
use Rattle.far_hand.specs.Finds.{Finds}
use Rattle.far_hand.specs.FindsJob.{FindsJob}
use Rattle.far_hand.specs.Makers.{is_others}
use Rattle.far_hand.specs.Quiet.{IsQuietNear, is_quiet}

-- the state once others had the turn for the next event of a list: an owner's event or a copier's is made, if it is legal, any
-- other passed over
abbrev pub after_turn : State → Option Event → State
after_turn s None = s
after_turn s (Some e) = if is_others e then (step_of s e).0 else s

-- the word at an address is a data word of a near object that isn't quiet: its owner may store there
pub record IsOwnersAt (s : State) (a : ℕ) : Type 0 where
  pub p : ℕ
  pub len : ℕ
  pub ds : ℕ
  pub place : Place
  pub marks : Marks
  pub index : ℕ
  pub near : read_of (s.cell p) ≡ Some (Near len ds place marks)
  pub loud : is_quiet s.round s.clear p place marks ≡ false
  pub inside : index < words_for len
  pub here : a ≡ addr place + 1 + index

-- the word at an address is a data word of the target of a job that is neither empty nor finished: its copier may write there
pub record IsCopiersAt (s : State) (a : ℕ) : Type 0 where
  pub number : ℕ
  pub job : Job
  pub index : ℕ
  pub says : job_at s.copying.word number ≡ Some job
  pub unfinished : is_finished (job_of (s.copying.word number)) ≡ false
  pub inside : index < job_words s.word job
  pub here : a ≡ addr job.to + 1 + index

abbrev pub IsLoudAt : State → ℕ → Type 0
IsLoudAt s a = IsOwnersAt s a ⊎ IsCopiersAt s a

-- owners add marks to cells, but DIRTY to none whose object is quiet, and store into objects that aren't quiet; copiers go on with jobs, and write to the targets of jobs that
-- aren't finished; owners and copiers change what they alone have; all else stays
pub record OthersChange (s t : State) : Type 0 where
  pub cells : (p : ℕ) → Finds (s.cell p) (t.cell p)
  pub clean : (p : ℕ) → IsQuietNear s p → is_dirty (read_of (t.cell p)) ≡ is_dirty (read_of (s.cell p))
  pub words : (a : ℕ) → ¬ IsLoudAt s a → t.word a ≡ s.word a
  pub jobs : (j : ℕ) → FindsJob (s.copying.word j) (t.copying.word j)
  pub rest : IsBeside s t
