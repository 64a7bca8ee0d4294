-- What the law means for a log and for an object, in the subject's words.
use Rattle.std.specs.Prelude.{◌≡◌, ◌≢◌, ◌⊎◌, ℕ, ◌+◌, ◌-◌, ◌*◌, ◌<◌, ◌↔◌, true, not, Some, [], Contains}
use Rattle.far_word.specs.declared.mark.Marks.{Marks}
use Rattle.far_word.specs.declared.pointer.Place.{Place}
use Rattle.far_word.specs.declared.pointer.PtrWord.TheVariants.{Near, Far}
use Rattle.far_word.specs.declared.sizes.TheConstants.{LOG_WORDS}
use Rattle.far_word.specs.Pointer.{read_of}
use Rattle.far_log.specs.declared.span.Span.{Span}
use Rattle.far_log.specs.Spans.{taken_by}
use Rattle.far_events.specs.declared.event.Kind.TheVariants.{Free, Open}
use Rattle.far_events.specs.state.Law.{in_use, IsStored}
use Rattle.far_events.specs.state.Spans.{spans_of, is_live}
use Rattle.far_events.specs.state.State.{State}

-- the bytes of a log that live spans take, that other spans take, and that none takes
abbrev pub live_bytes : State → ℕ → ℕ
live_bytes s l = taken_by (is_live s l) (spans_of s l)

abbrev pub dead_bytes : State → ℕ → ℕ
dead_bytes s l = taken_by (λ span. not (is_live s l span)) (spans_of s l)

abbrev pub unused_bytes : State → ℕ → ℕ
unused_bytes s l = 8 * LOG_WORDS - 8 * s.tail l

-- what a span of p would be
abbrev pub span_for : ℕ → ℕ → ℕ → ℕ → Span
span_for p len ds at = record { at = at; p = p; len = len; ds = ds }

-- p has exactly one live span in all logs, of this length and data structure: the one at the place that its cell names
pub record OneLive (s : State) (p len ds : ℕ) (place : Place) : Type 0 where
  pub placed : Contains (spans_of s place.log) (span_for p len ds place.at)
  pub live : is_live s place.log (span_for p len ds place.at) ≡ true
  pub only : (l : ℕ) (span : Span) → Contains (spans_of s l) span → is_live s l span ≡ true → span.p ≡ p →
      (l ≡ place.log) × (span ≡ span_for p len ds place.at)

-- p lies near: its one live span has the length and the data structure that its cell says
abbrev pub LiesNear : State → ℕ → Type 0
LiesNear s p = (len ds : ℕ) × (place : Place) × (m : Marks) × (read_of (s.cell p) ≡ Some (Near len ds place m)) × OneLive s p len ds place

-- p lies far: words of its length are stored for it, and no span is live that names it
abbrev pub LiesFar : State → ℕ → Type 0
LiesFar s p = (len ds : ℕ) × (m : Marks) × (read_of (s.cell p) ≡ Some (Far len ds m)) × IsStored (s.stored p) len
    × ((l : ℕ) (span : Span) → Contains (spans_of s l) span → is_live s l span ≡ true → span.p ≢ p)

-- an object that is used and not dropped has one place, near or far
abbrev pub HasOnePlace : State → ℕ → Type 0
HasOnePlace s p = in_use (read_of (s.cell p)) ≡ true → LiesNear s p ⊎ LiesFar s p

-- a near cell has exactly one live span, dropped or not
abbrev pub NearHasOneLive : State → ℕ → Type 0
NearHasOneLive s p = (len ds : ℕ) (place : Place) (m : Marks) → read_of (s.cell p) ≡ Some (Near len ds place m) → OneLive s p len ds place

-- the spans that the book keeps are those of the list
abbrev pub PlacedExactly : State → ℕ → ℕ → Type 0
PlacedExactly s l at = at < LOG_WORDS → (s.starts (l * LOG_WORDS + at) ≡ true) ↔ ((span : Span) × Contains (spans_of s l) span × (span.at ≡ at))

-- a free log has no spans, and exactly one log is open
pub record LogsStand (s : State) : Type 0 where
  pub free_empty : (l : ℕ) → s.kind l ≡ Free → (s.tail l ≡ 0) × (spans_of s l ≡ [])
  pub one_open : (l : ℕ) × (l < s.logs) × (s.kind l ≡ Open) × ((k : ℕ) → s.kind k ≡ Open → k ≡ l)

-- two cells never name one place
abbrev pub NamesOnce : State → Type 0
NamesOnce s = (p q len n ds d : ℕ) (place : Place) (m k : Marks) →
    read_of (s.cell p) ≡ Some (Near len ds place m) → read_of (s.cell q) ≡ Some (Near n d place k) → p ≡ q
