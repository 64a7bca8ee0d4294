-- A near object that is quiet gets another place, where a header for its pointer and its data words are written, or where a finished job has
-- copied it; the span at its old place is dead from then on.
use Rattle.std.specs.Prelude.{◌≡◌, ◌≢◌, ◌<◌, ◌&&◌, ◌||◌, ◌⊎◌, ℕ, Bool, true, nat_lt, is_some, Option, Some, None}
use Rattle.far_word.specs.declared.pointer.Place.{Place}
use Rattle.far_word.specs.Pointer.{read_of}
use Rattle.far_word.specs.Sizes.{words_for}
use Rattle.far_events.specs.state.State.{State}
use Rattle.far_events.specs.events.Changes.{Change}
use Rattle.far_events.specs.events.Changes as change
use Rattle.far_events.specs.events.Copies.{Alike, alike, data_at, EndsPadded, ends_padded}
use Rattle.far_events.specs.events.Copied.{WasCopied, copied_job, with_named}
use Rattle.far_events.specs.events.NamingRow.{NamingRow}
use Rattle.far_events.specs.events.NewSpans.{IsNewSpan, is_new_span, with_span, Takes}
use Rattle.far_events.specs.events.Quiet.{IsQuiet, is_quiet_cell}

-- the words at the old place, which lies in a log of the heap, stand at the new one too, behind a header, and nobody can store into the object meanwhile
pub record MayMove (s : State) (p len ds : ℕ) (from to : Place) : Type 0 where
  pub span : IsNewSpan s p len ds to
  pub padded : EndsPadded s.word len to
  pub quiet : IsQuiet s p
  pub log : from.log < s.logs
  pub same : Alike (data_at s.word to) (data_at s.word from) (words_for len)

-- the same as a test
abbrev pub may_move : State → ℕ → ℕ → ℕ → Place → Place → Bool
may_move s p len ds from to =
    is_new_span s p len ds to && ends_padded s.word len to && is_quiet_cell s p (read_of (s.cell p)) && nat_lt from.log s.logs && alike (data_at s.word to) (data_at s.word from) (words_for len)

-- a span is taken; or a job has copied the object there, and its pointer is named to the copy
abbrev pub after_move : State → ℕ → ℕ → ℕ → Place → Option ℕ → State
after_move s p new len to None = with_span s p new len to
after_move s p new len to (Some j) = with_named s p new j

-- of this job alone the pointer is named to its target; beside the cell nothing else changes
pub record NamesCopy (s : State) (j : ℕ) (t : State) : Type 0 where
  pub named : t.copying.named j ≡ true
  pub others : (i : ℕ) → i ≢ j → t.copying.named i ≡ s.copying.named i
  pub rest : t ≡ record s { cell = t.cell; copying = record s.copying { named = t.copying.named } }

abbrev pub MoveReports : State → ℕ → Place → Option ℕ → State → Type 0
MoveReports s len to None t = Takes s len to t
MoveReports s len to (Some j) t = NamesCopy s j t

abbrev pub moves_row : State → ℕ → ℕ → ℕ → ℕ → Place → Place → NamingRow
moves_row s p new len ds from to = record {
  test = may_move s p len ds from to || is_some (copied_job s p from to);
  after = after_move s p new len to (copied_job s p from to);
  Legal = MayMove s p len ds from to ⊎ WasCopied s p from to;
  Reports = MoveReports s len to (copied_job s p from to);
}

abbrev pub moves_change : ℕ → Place → Change
moves_change p to = change.Moves p to.log
