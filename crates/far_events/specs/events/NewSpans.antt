-- A new span: where it may stand, what is written there before, and what is so when it is taken.
use Rattle.std.specs.Prelude.{◌≡◌, ◌≢◌, ◌+◌, ◌<◌, ◌⊎◌, ◌==◌, ◌&&◌, ℕ, Bool, true, false, nat_lt, suc, zero}
use Rattle.far_word.specs.declared.pointer.Place.{Place}
use Rattle.far_word.specs.Header.{head_word}
use Rattle.far_word.specs.Sizes.{size_of}
use Rattle.far_events.specs.declared.event.Kind.{Kind}
use Rattle.far_events.specs.declared.event.Kind.TheVariants.{Free, Open, Sealed}
use Rattle.far_events.specs.state.State.{State, put, addr}

-- the next span of its log may stand there: at the end of the open log, or at the start of a free one
abbrev pub IsNext : State → Place → Type 0
IsNext s place = (place.log < s.logs) × (((s.kind place.log ≡ Open) × (place.at ≡ s.tail place.log)) ⊎ ((s.kind place.log ≡ Free) × (place.at ≡ 0)))

-- a header for p is written where the next span of a log may stand
pub record IsNewSpan (s : State) (p len ds : ℕ) (place : Place) : Type 0 where
  pub next : IsNext s place
  pub head : s.word (addr place) ≡ head_word p len ds

-- the same as tests
abbrev pub goes_at : Kind → ℕ → ℕ → Bool
goes_at Free at tail = at == 0
goes_at Open at tail = at == tail
goes_at Sealed at tail = false

abbrev pub is_new_span : State → ℕ → ℕ → ℕ → Place → Bool
is_new_span s p len ds place = nat_lt place.log s.logs && goes_at (s.kind place.log) place.at (s.tail place.log) && (s.word (addr place) == head_word p len ds)

-- n words from a on are 0
abbrev pub zeros : (ℕ → ℕ) → ℕ → ℕ → Bool
zeros word a zero = true
zeros word a (suc n) = zeros word a n && (word (a + n) == 0)

-- a span is begun at a new place: it ends its log, and its log is the open one
abbrev pub with_begun : State → ℕ → Place → State
with_begun s len place = record s {
  tail = put s.tail place.log (place.at + size_of len);
  kind = put (put s.kind s.current Sealed) place.log Open;
  current = place.log;
  starts = put s.starts (addr place) true;
}

-- the state with the span at a new place taken, and named by p's cell: the span ends its log, and its log is the open one
abbrev pub with_span : State → ℕ → ℕ → ℕ → Place → State
with_span s p new len place = record s {
  cell = put s.cell p new;
  tail = put s.tail place.log (place.at + size_of len);
  kind = put (put s.kind s.current Sealed) place.log Open;
  current = place.log;
  starts = put s.starts (addr place) true;
}

-- a span is taken: its log ends after it and is the open one; the log that was open is sealed, if it is another; no other log
-- and no other beginning changes, nor do the round, who was seen clear in it, and the stored words
pub record Takes (s : State) (len : ℕ) (place : Place) (t : State) : Type 0 where
  pub ends : t.tail place.log ≡ place.at + size_of len
  pub opens : (t.kind place.log ≡ Open) × (t.current ≡ place.log)
  pub seals : (l : ℕ) → l ≢ place.log → s.kind l ≡ Open → t.kind l ≡ Sealed
  pub others : (l : ℕ) → l ≢ place.log → (t.tail l ≡ s.tail l) × (s.kind l ≢ Open → t.kind l ≡ s.kind l)
  pub begins : t.starts (addr place) ≡ true
  pub starts : (a : ℕ) → a ≢ addr place → t.starts a ≡ s.starts a
  pub round : t.round ≡ s.round
  pub clear : t.clear ≡ s.clear
  pub stored : t.stored ≡ s.stored
