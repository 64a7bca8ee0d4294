-- Which live spans of a log lie at a word or behind it, one after the other.
use Rattle.std.specs.Prelude.{◌≡◌, ◌⊎◌, ◌+◌, ◌*◌, ◌<◌, ◌≤◌, ◌++◌, ◌&&◌, nat_le, ℕ, true, List, Contains, Option, Some, None}
use Rattle.std.specs.List.{filter}
use Rattle.far_word.specs.declared.mark.Marks.{Marks}
use Rattle.far_word.specs.declared.pointer.PtrWord.TheVariants.{Near}
use Rattle.far_word.specs.declared.sizes.TheConstants.{CELLS, LOG_WORDS}
use Rattle.far_word.specs.Pointer.{read_of}
use Rattle.far_word.specs.Sizes.{size_of}
use Rattle.far_log.specs.declared.span.Span.{Span}
use Rattle.far_log.specs.Spans.{Tile}
use Rattle.far_events.specs.state.Law.{Law}
use Rattle.far_events.specs.state.Spans.{spans_of, is_live}
use Rattle.far_events.specs.state.State.{State}
use Rattle.far_book.specs.declared.live_span.LiveSpan.{LiveSpan}
use Rattle.far_book.specs.book.Own.{own_part}

-- a span of the log begins at this word, or the log's spans end there
abbrev pub IsBoundary : State → ℕ → ℕ → Type 0
IsBoundary s l at = (at ≡ s.tail l) ⊎ ((at < s.tail l) × (s.starts (l * LOG_WORDS + at) ≡ true))

-- the spans of a log that begin at a word or behind it and in which an object lives, dropped or not
abbrev pub live_from : State → ℕ → ℕ → List Span
live_from s l at = filter (λ span. is_live s l span && nat_le at span.at) (spans_of s l)

-- the span that was found
abbrev pub span_in : Option LiveSpan → Option Span
span_in None = None
span_in (Some found) = Some found.span

-- where a search for a live span ended: behind the span that was found, or else where the log's spans end
abbrev pub searched_to : State → ℕ → Option Span → ℕ
searched_to s l None = s.tail l
searched_to s l (Some span) = span.at + size_of span.len

-- the header of a span of the log names this pointer, and the span lies between these words
abbrev pub IsNamedBetween : State → ℕ → ℕ → ℕ → ℕ → Type 0
IsNamedBetween s l at end p = (span : Span) × Contains (spans_of s l) span × (span.p ≡ p) × (at ≤ span.at) × (span.at + size_of span.len ≤ end)

-- an object lies in a span: its cell says near, at the span's place, with the length and the data structure that the header says
pub record IsHomeOf (s : State) (l : ℕ) (span : Span) : Type 0 where
  pub pointer : span.p < CELLS * s.mutators
  pub marks : Marks
  pub near : read_of (s.cell span.p) ≡ Some (Near span.len span.ds record { log = l; at = span.at } marks)

-- ---- laws
-- from word 0 on these are all live spans of the log, and word 0 is a boundary
abbrev pub LivesFromStart : Type 0
LivesFromStart = (s : State) → Law (own_part s) → (l : ℕ) → IsBoundary s l 0 × (live_from s l 0 ≡ filter (is_live s l) (spans_of s l))

-- where a span of the log begins, and where it ends, is a boundary
abbrev pub SpansAreBounded : Type 0
SpansAreBounded = (s : State) → Law (own_part s) → (l : ℕ) (span : Span) → Contains (spans_of s l) span → IsBoundary s l span.at × IsBoundary s l (span.at + size_of span.len)

-- a boundary parts the list of spans; from it on are the live ones of those that lie behind it
abbrev pub LivesBehind : Type 0
LivesBehind = (s : State) → Law (own_part s) → (l at : ℕ) → IsBoundary s l at → (before behind : List Span)
    × (spans_of s l ≡ before ++ behind) × Tile 0 before at × Tile at behind (s.tail l) × (live_from s l at ≡ filter (is_live s l) behind)
