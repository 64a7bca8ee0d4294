-- The live objects of some logs, in the order in which a round deals with them.
use Rattle.std.specs.Prelude.{ℕ, Bool, true, false, not, List, [], ◌∷◌, map, filter}
use Rattle.std.specs.List.{flat_map}
use Rattle.far_word.specs.Pointer.{read_of}
use Rattle.far_log.specs.declared.span.Span.{Span}
use Rattle.far_events.specs.state.Spans.{spans_of, is_live}
use Rattle.far_events.specs.state.State.{State}
use Rattle.far_book.specs.book.Dealing.{has_evac}

-- the pointers that some spans name
abbrev pub pointers_of : List Span → List ℕ
pointers_of spans = map (λ (span : Span). span.p) spans

-- the pointers whose objects live in a log, dropped or not, by place
unfoldable pub live_in : State → ℕ → List ℕ
live_in s l = pointers_of (filter (is_live s l) (spans_of s l))

-- those of some logs, log after log
abbrev pub live_among : State → List ℕ → List ℕ
live_among s logs = flat_map (live_in s) logs

-- those of them that lack EVAC
abbrev pub lacking : State → List ℕ → List ℕ
lacking s logs = filter (λ p. not (has_evac (read_of (s.cell p)))) (live_among s logs)

abbrev pub is_empty : {X : Type 0} → List X → Bool
is_empty [] = true
is_empty (x ∷ xs) = false
