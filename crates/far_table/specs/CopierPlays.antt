-- What each kind of step of a copier's seat tells: of the step, the seat before, the word found (at a store, the word stored) and the seat after.
use Rattle.std.specs.Prelude.{◌≡◌, ◌+◌, ◌==◌, ℕ, cond, Some, IsSome}
use Rattle.atomic_table.specs.Table.{Me, Step}
use Rattle.far_word.specs.Header.{head_of}
use Rattle.far_word.specs.Job.{job_in}
use Rattle.far_events.specs.declared.event.Event.TheVariants.{PeekJob, Claim, ReadLength, Read, Write, Finish}
use Rattle.far_events.specs.declared.event.Reply.TheVariants.{Done, Word}
use Rattle.far_events.specs.declared.event.Task.{Task}
use Rattle.far_events.specs.state.State.{addr}
use Rattle.far_table.specs.View.{View}
use Rattle.far_table.specs.CopierViews.{claimed_view, finished_view, measured_view, peeked_view, word_read_view, word_written_view}
use Rattle.far_table.specs.Layout.{data_at, job_at}
use Rattle.far_table.specs.NameViews.{exchange_reply}
use Rattle.far_table.specs.Tells.{CopierTells, copier_of}

-- the number of a copier's seat
abbrev pub copier_number : View → ℕ
copier_number v = (copier_of v).number

module _ {S : Type 0} where
  abbrev pub JobPeeked : Step S → Me S View → ℕ → Me S View → Type 0
  JobPeeked st me found me' = (j : ℕ) → st.word ≡ job_at j → CopierTells me.0 me'.0 (PeekJob (copier_number me.0) j) (Word found) (peeked_view j found (copier_of me.0))

  -- the job is the one that the word awaited says; where another was found, that is noted and nothing changed
  abbrev pub JobClaimed : Step S → Me S View → ℕ → Me S View → Type 0
  JobClaimed st me found me' = (j : ℕ) → st.word ≡ job_at j → CopierTells me.0 me'.0 (Claim (copier_number me.0) j st.first) (exchange_reply st.first found) (cond (found == st.first) (claimed_view j (job_in st.first) (copier_of me.0)) (peeked_view j found (copier_of me.0)))

  -- the word is a header
  abbrev pub LengthRead : Step S → Me S View → ℕ → Me S View → Type 0
  LengthRead st me found me' = IsSome (head_of found) × CopierTells me.0 me'.0 (ReadLength (copier_number me.0)) (Word found) (measured_view found (copier_of me.0))

  -- the word of the table is that data word of the source
  abbrev pub SourceRead : Step S → Me S View → ℕ → Me S View → Type 0
  SourceRead st me found me' = (i : ℕ) (t : Task) → (copier_of me.0).task ≡ Some t → st.word ≡ data_at (addr t.job.from + 1 + i) →
      CopierTells me.0 me'.0 (Read (copier_number me.0) i) (Word found) (word_read_view i found (copier_of me.0))

  -- of the target
  abbrev pub TargetWritten : Step S → Me S View → ℕ → Me S View → Type 0
  TargetWritten st me word me' = (i : ℕ) (t : Task) → (copier_of me.0).task ≡ Some t → st.word ≡ data_at (addr t.job.to + 1 + i) →
      CopierTells me.0 me'.0 (Write (copier_number me.0) i) Done (word_written_view i (copier_of me.0))

  abbrev pub JobFinished : Step S → Me S View → ℕ → Me S View → Type 0
  JobFinished st me word me' = CopierTells me.0 me'.0 (Finish (copier_number me.0)) Done (finished_view (copier_of me.0))
