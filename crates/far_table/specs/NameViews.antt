-- How an exchange of a cell by the book's seat changes its view, and how a job that it offers does.
use Rattle.std.specs.Prelude.{ℕ, ◌+◌, ◌==◌, true, false, cond, Option, Some, None, List, [], ◌∷◌, ◌++◌}
use Rattle.far_word.specs.declared.job.Job.{Job}
use Rattle.far_word.specs.declared.job.JobWord.TheVariants.{Offered}
use Rattle.far_word.specs.declared.pointer.Place.{Place}
use Rattle.far_word.specs.Header.{head_word}
use Rattle.far_word.specs.Job.{job_word}
use Rattle.far_word.specs.Pointer.{read_of}
use Rattle.far_word.specs.Sizes.{size_of, words_for}
use Rattle.far_events.specs.declared.event.Kind.TheVariants.{Open, Sealed}
use Rattle.far_events.specs.declared.event.Reply.{Reply}
use Rattle.far_events.specs.declared.event.Reply.TheVariants.{Done, Word}
use Rattle.far_events.specs.declared.naming.Naming.{Naming}
use Rattle.far_events.specs.declared.naming.Naming.TheVariants.{Places, Retires, Evicts, Stays, Moves, Fetches}
use Rattle.far_events.specs.events.Copied.{copied_job}
use Rattle.far_events.specs.events.Naming.{naming_of}
use Rattle.far_events.specs.state.State.{addr}
use Rattle.far_table.specs.View.{BookView}
use Rattle.far_table.specs.BookViews.{saw_view}
use Rattle.far_table.specs.First.{rows_from}
use Rattle.far_table.specs.Rows.{over}
use Rattle.far_table.specs.StateOf.{book_state, cleaned_at, cooled_at, retired_at, stained_at, taken_at}
use Rattle.far_table.specs.Views.{dirts, hots, moves}

-- the next span of a log is taken, for p: the log ends behind it and is the open one
abbrev pub span_view : ℕ → ℕ → ℕ → Place → BookView → BookView
span_view p len ds place b = record b {
  kinds = (place.log, Open) ∷ (b.current, Sealed) ∷ b.kinds;
  tails = (place.log, place.at + size_of len) ∷ b.tails;
  current = place.log;
  heads = (addr place, Some (head_word p len ds)) ∷ b.heads;
}

-- the words of an object that goes far: those that stand at its place, whether the view knows them or not
abbrev pub stored_rows : (ℕ → ℕ) → ℕ → ℕ → Place → BookView → List (ℕ × ℕ)
stored_rows word p len place b = rows_from 0 (words_for len) (λ i. word (addr place + 1 + i)) ++ over b.stored (λ _. []) p

-- an object that moves takes a span; or it is named where a job has copied it
abbrev pub move_view : ℕ → ℕ → ℕ → Place → Option ℕ → BookView → BookView
move_view p len ds to None b = span_view p len ds to b
move_view p len ds to (Some j) b = record b { named = (j, true) ∷ b.named }

-- what a form changes beside the cell
abbrev pub form_view : (ℕ → ℕ) → ℕ → Naming → BookView → BookView
form_view word p (Places len ds place) b = span_view p len ds place b
form_view word p Retires b = b
form_view word p (Evicts len place) b = record b { stored = (p, stored_rows word p len place b) ∷ b.stored }
form_view word p Stays b = b
form_view word p (Moves len ds from to) b = move_view p len ds to (copied_job (book_state b) p from to) b
form_view word p (Fetches len ds place) b = span_view p len ds place b

-- how many objects a form retires
abbrev pub retires : Naming → ℕ
retires (Places len ds place) = 0
retires Retires = 1
retires (Evicts len place) = 0
retires Stays = 0
retires (Moves len ds from to) = 0
retires (Fetches len ds place) = 0

-- the cell is the new word, MOVE and HOT are counted where they were taken away, and what is retired, DIRTY where it is left, and where it was found, and no word is
-- known any more but headers
abbrev pub formed_view : (ℕ → ℕ) → ℕ → ℕ → ℕ → Naming → BookView → BookView
formed_view word p old new form b = record (form_view word p form b) {
  cells = (p, new) ∷ b.cells;
  taken = (p, taken_at b p + moves old) ∷ b.taken;
  retired = (p, retired_at b p + retires form) ∷ b.retired;
  cooled = (p, cooled_at b p + hots old) ∷ b.cooled;
  stained = (p, stained_at b p + dirts new) ∷ b.stained;
  cleaned = (p, cleaned_at b p + dirts old) ∷ b.cleaned;
  known = [];
}

abbrev pub view_by : (ℕ → ℕ) → ℕ → ℕ → ℕ → Option Naming → BookView → BookView
view_by word p old new None b = b
view_by word p old new (Some form) b = formed_view word p old new form b

-- the view after an exchange that won
abbrev pub named_view : (ℕ → ℕ) → ℕ → ℕ → ℕ → BookView → BookView
named_view word p old new b = view_by word p old new (naming_of (read_of old) (read_of new)) b

-- the view after an exchange, by the word found: it won, or the word is what is seen now
abbrev pub exchanged_view : (ℕ → ℕ) → ℕ → ℕ → ℕ → ℕ → BookView → BookView
exchanged_view word p old new found b = cond (found == old) (named_view word p old new b) (saw_view p found b)

-- what it answers
abbrev pub exchange_reply : ℕ → ℕ → Reply
exchange_reply old found = cond (found == old) Done (Word found)

-- ---- a job is offered: the span at its target is taken, and no word is known any more but headers
abbrev pub offered_view : ℕ → ℕ → ℕ → Job → BookView → BookView
offered_view j len ds job b = record (span_view job.pointer len ds job.to b) {
  jobs = (j, job_word (Offered job)) ∷ b.jobs;
  since = (j, b.epoch) ∷ b.since;
  named = (j, false) ∷ b.named;
  known = [];
}
