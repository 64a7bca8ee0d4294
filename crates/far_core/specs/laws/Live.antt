-- Which spans are live, and what they take, said in other words than the list's own.
use Rattle.std.specs.Prelude.{◌≡◌, ℕ, ◌↔◌, true, not, Some}
use Rattle.std.specs.List.{filter, sum_by}
use Rattle.far_word.specs.declared.mark.Marks.{Marks}
use Rattle.far_word.specs.declared.pointer.Place.{Place}
use Rattle.far_word.specs.declared.pointer.PtrWord.TheVariants.{Near}
use Rattle.far_word.specs.Pointer.{read_of}
use Rattle.far_word.specs.Sizes.{bytes_taken}
use Rattle.far_log.specs.declared.span.Span.{Span}
use Rattle.far_core.specs.laws.Observed.{live_bytes, dead_bytes}
use Rattle.far_events.specs.state.Spans.{spans_of, is_live}
use Rattle.far_events.specs.state.State.{State}

-- a place in a log
abbrev pub place_in : ℕ → ℕ → Place
place_in l at = record { log = l; at = at }

-- a span is live exactly where the cell of the pointer that its header names says near, at this place
abbrev pub LiveIs : State → ℕ → Span → Type 0
LiveIs s l span = (is_live s l span ≡ true) ↔ ((len ds : ℕ) × (m : Marks) × (read_of (s.cell span.p) ≡ Some (Near len ds (place_in l span.at) m)))

-- live bytes are what the live spans take in all, and dead bytes what all others take
abbrev pub LiveBytesAre : State → ℕ → Type 0
LiveBytesAre s l = (live_bytes s l ≡ sum_by (λ (span : Span). bytes_taken span.len) (filter (is_live s l) (spans_of s l)))
    × (dead_bytes s l ≡ sum_by (λ (span : Span). bytes_taken span.len) (filter (λ span. not (is_live s l span)) (spans_of s l)))
