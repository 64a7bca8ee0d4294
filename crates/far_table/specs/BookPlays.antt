-- What each kind of step of the book's seat tells: of the step, the seat before, the word found (at a store, the word stored) and the seat after.
use Rattle.std.specs.Prelude.{◌≡◌, ◌+◌, ◌-◌, ◌*◌, ◌^◌, ◌<◌, ℕ, true, false, Some, None}
use mathlib.Core.Option.{some}
use Rattle.atomic_table.specs.Table.{Me, Step}
use Rattle.far_word.specs.declared.job.Job.{Job}
use Rattle.far_word.specs.declared.job.JobWord.TheVariants.{Offered}
use Rattle.far_word.specs.Job.{job_of}
use Rattle.far_word.specs.Mark.{position}
use Rattle.far_word.specs.declared.mark.Mark.TheVariants.{Evac}
use Rattle.far_word.specs.declared.sizes.TheConstants.{LOG_WORDS}
use Rattle.far_events.specs.declared.event.Event.TheVariants.{See, Mark, Clear, Get, Put, Name, Advance, Look, Offer, SeeJob, Collect}
use Rattle.far_events.specs.declared.event.Reply.TheVariants.{Done, Epoch, Word}
use Rattle.far_events.specs.events.Legal.{Legal}
use Rattle.far_hand.specs.Finds.{Finds}
use Rattle.far_hand.specs.FindsJob.{FindsJob}
use Rattle.far_hand.specs.Known.{StoresLeaving}
use Rattle.far_hand.specs.Rounds.{IsScopeAt}
use Rattle.far_hand.specs.Ranges.{Gets}
use Rattle.far_table.specs.View.{View}
use Rattle.far_table.specs.BookTells.{BookTells}
use Rattle.far_table.specs.BookViews.{cleared_view, collected_view, freed_view, got_view, is_quiet_at, looked_view, marked_view, put_view, raised_view, saw_job_view, saw_view}
use Rattle.far_table.specs.Layout.{cell_at, data_at, job_at, scope_at}
use Rattle.far_table.specs.NameViews.{exchange_reply, exchanged_view, named_view, offered_view}
use Rattle.far_table.specs.Stands.{IsPlain, book_of}
use Rattle.far_table.specs.StateOf.{book_state, head_at}

-- a job was offered, which was legal by the view
abbrev pub JobTold : View → View → ℕ → Job → Type 0
JobTold before now j job = (h : Legal (book_state (book_of before)) (Offer j job.pointer job.to)) × BookTells before now (Offer j job.pointer job.to) Done (offered_view j h.3.0 h.3.1 job (book_of before))

module _ {S : Type 0} where
  abbrev pub Saw : Step S → Me S View → ℕ → Me S View → Type 0
  Saw st me found me' = (p : ℕ) → st.word ≡ cell_at p → Finds ((book_state (book_of me.0)).cell p) found
      × BookTells me.0 me'.0 (See p) (Word found) (saw_view p found (book_of me.0))

  -- EVAC is set, and nothing else
  abbrev pub Marked : Step S → Me S View → ℕ → Me S View → Type 0
  Marked st me found me' = (st.first ≡ 2 ^ position Evac) × ((p : ℕ) → st.word ≡ cell_at p → Finds ((book_state (book_of me.0)).cell p) found
      × BookTells me.0 me'.0 (Mark p) (Word found) (marked_view p found (book_of me.0)))

  -- EVAC is taken away, and nothing else
  abbrev pub Cleared : Step S → Me S View → ℕ → Me S View → Type 0
  Cleared st me found me' = (st.first ≡ 2 ^ 64 - 1 - 2 ^ position Evac) × ((p : ℕ) → st.word ≡ cell_at p → Finds ((book_state (book_of me.0)).cell p) found
      × BookTells me.0 me'.0 (Clear p) (Word found) (cleared_view p found (book_of me.0)))

  -- the word is known from then on where the view shows it to be a quiet object's
  abbrev pub Got : Step S → Me S View → ℕ → Me S View → Type 0
  Got st me found me' = (l at : ℕ) → at < LOG_WORDS → st.word ≡ data_at (l * LOG_WORDS + at) →
      Gets (book_state (book_of me.0)) (book_state (got_view (is_quiet_at (book_of me.0) l at) (l * LOG_WORDS + at) found (book_of me.0))) l at false found
      × IsPlain (got_view (is_quiet_at (book_of me.0) l at) (l * LOG_WORDS + at) found (book_of me.0))
      × BookTells me.0 me'.0 (Get l at false) (Word found) (got_view (is_quiet_at (book_of me.0) l at) (l * LOG_WORDS + at) found (book_of me.0))

  abbrev pub Freed : Step S → Me S View → ℕ → Me S View → Type 0
  Freed st me found me' = (l at : ℕ) → at < LOG_WORDS → st.word ≡ data_at (l * LOG_WORDS + at) →
      Gets (book_state (book_of me.0)) (book_state (freed_view l (book_of me.0))) l at true found
      × BookTells me.0 me'.0 (Get l at true) (Word found) (freed_view l (book_of me.0))

  -- no span begins there
  abbrev pub Putted : Step S → Me S View → ℕ → Me S View → Type 0
  Putted st me word me' = (l at : ℕ) → at < LOG_WORDS → st.word ≡ data_at (l * LOG_WORDS + at) → (head_at (book_of me.0) (l * LOG_WORDS + at) ≡ None)
      × BookTells me.0 me'.0 (Put l at word) Done (put_view (l * LOG_WORDS + at) word (book_of me.0))

  abbrev pub Named : Step S → Me S View → ℕ → Me S View → Type 0
  -- of an object that goes far words are stored that stood somewhere; those that the view knew are among them, and where it was clean and the far side is honest, they
  -- are what was stored of it before
  Named st me found me' = (p : ℕ) → st.word ≡ cell_at p → Finds ((book_state (book_of me.0)).cell p) found
      × (word : ℕ → ℕ) × (found ≡ st.first → StoresLeaving (book_state (book_of me.0)) (book_state (named_view word p st.first st.second (book_of me.0))) p st.first st.second)
      × BookTells me.0 me'.0 (Name p st.first st.second) (exchange_reply st.first found) (exchanged_view word p st.first st.second found (book_of me.0))

  abbrev pub Looked : Step S → Me S View → ℕ → Me S View → Type 0
  Looked st me found me' = (m : ℕ) → st.word ≡ scope_at m → IsScopeAt (book_of me.0).epoch found
      × BookTells me.0 me'.0 (Look m) (Word found) (looked_view m found (book_of me.0))

  abbrev pub JobSeen : Step S → Me S View → ℕ → Me S View → Type 0
  JobSeen st me found me' = (j : ℕ) → st.word ≡ job_at j → FindsJob ((book_state (book_of me.0)).copying.word j) found
      × BookTells me.0 me'.0 (SeeJob j) (Word found) (saw_job_view j found (book_of me.0))

  abbrev pub JobCollected : Step S → Me S View → ℕ → Me S View → Type 0
  JobCollected st me found me' = (j : ℕ) → st.word ≡ job_at j → FindsJob ((book_state (book_of me.0)).copying.word j) found
      × BookTells me.0 me'.0 (Collect j st.first) (exchange_reply st.first found) (collected_view j st.first found (book_of me.0))

  -- the word offers this job
  abbrev pub JobOffered : Step S → Me S View → ℕ → Me S View → Type 0
  JobOffered st me word me' = (j : ℕ) (job : Job) → st.word ≡ job_at j → job_of word ≡ Some (Offered job) → JobTold me.0 me'.0 j job

-- the round is of the logs that were announced
abbrev pub Advanced : Step ℕ → Me ℕ View → ℕ → Me ℕ View → Type 0
Advanced st me found me' = (logs : ℕ) → st.said ≡ some logs → BookTells me.0 me'.0 (Advance logs) (Epoch st.second) (raised_view logs (book_of me.0))
