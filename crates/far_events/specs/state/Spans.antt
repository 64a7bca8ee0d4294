-- The spans of a state's logs, and which of them are live.
use Rattle.std.specs.Prelude.{ℕ, ◌+◌, ◌*◌, ◌<◌, Bool, false, ◌==◌, ◌&&◌, Option, Some, None, List}
use Rattle.far_word.specs.declared.pointer.PtrWord.{PtrWord}
use Rattle.far_word.specs.declared.pointer.PtrWord.TheVariants.{Free, Near, Far}
use Rattle.far_word.specs.declared.sizes.TheConstants.{CELLS, LOG_WORDS}
use Rattle.far_word.specs.Pointer.{read_of}
use Rattle.far_log.specs.declared.span.Span.{Span}
use Rattle.far_log.specs.Spans.{spans_in}
use Rattle.far_events.specs.state.State.{State}

-- the words of a log
abbrev pub word_in : State → ℕ → ℕ → ℕ
word_in s l i = s.word (l * LOG_WORDS + i)

-- the spans of a log
unfoldable pub spans_of : State → ℕ → List Span
spans_of s l = spans_in (word_in s l) (s.tail l)

-- the pointer that a span's header names is one of the heap's
abbrev pub IsOfHeap : State → Span → Type 0
IsOfHeap s span = span.p < CELLS * s.mutators

-- a cell names this place
abbrev pub names_place : Option PtrWord → ℕ → ℕ → Bool
names_place None l at = false
names_place (Some Free) l at = false
names_place (Some (Near len ds place m)) l at = (place.log == l) && (place.at == at)
names_place (Some (Far len ds m)) l at = false

-- a span is live where the pointer that its header names, names it
abbrev pub is_live : State → ℕ → Span → Bool
is_live s l span = names_place (read_of (s.cell span.p)) l span.at
