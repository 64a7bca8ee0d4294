-- Where marking and the walk stand within the logs, and what one step of marking leaves.
use Rattle.std.specs.Prelude.{◌≡◌, ◌≢◌, ℕ, ◌+◌, ◌<◌, ◌≤◌, false, Some, List, [], ◌∷◌, drop}
use Rattle.far_word.specs.declared.mark.Marks.{Marks}
use Rattle.far_word.specs.declared.pointer.Place.{Place}
use Rattle.far_word.specs.declared.pointer.PtrWord.TheVariants.{Near}
use Rattle.far_word.specs.declared.sizes.TheConstants.{LOG_WORDS}
use Rattle.far_word.specs.Pointer.{read_of}
use Rattle.far_word.specs.Sizes.{size_of}
use Rattle.far_log.specs.declared.span.Span.{Span}
use Rattle.far_events.specs.state.State.{State}
use Rattle.far_book.specs.book.Dealing.{has_evac}
use Rattle.far_book.specs.book.Effects.{marked}
use Rattle.far_book.specs.book.NextLive.{IsBoundary, IsHomeOf}
use Rattle.far_evac.specs.declared.round.Cursor.{Cursor}
use Rattle.far_evac.specs.declared.round.Round.{Round}
use Rattle.far_evac.specs.Live.{live_in}
use Rattle.far_evac.specs.Standing.{MarkedBefore}

-- a round once it stands there
abbrev pub standing_at : Round → Cursor → Round
standing_at r cursor = record r { index = cursor.index; at = cursor.at }

-- an object lies in a span of a log and lacks EVAC, each that lies there before has it, and no other lies in the span
pub record IsNextLacking (s : State) (l : ℕ) (span : Span) : Type 0 where
  pub lies : IsHomeOf s l span
  pub bare : has_evac (read_of (s.cell span.p)) ≡ false
  pub here : IsBoundary s l span.at
  pub before : MarkedBefore s l span.at
  pub behind : IsBoundary s l (span.at + size_of span.len)
  pub alone : (p len ds : ℕ) (place : Place) (marks : Marks) → read_of (s.cell p) ≡ Some (Near len ds place marks) → place.log ≡ l →
      span.at ≤ place.at → place.at < span.at + size_of span.len → p ≡ span.p

-- the round stands at that span
pub record StandsAt (s : State) (r : Round) (span : Span) : Type 0 where
  pub log : ℕ
  pub more : List ℕ
  pub front : drop r.index r.chosen ≡ log ∷ more
  pub next : IsNextLacking s log span
  pub at : r.at ≡ span.at

-- the first of some objects has EVAC, if there is one
abbrev pub first_marked : State → List ℕ → State
first_marked s [] = s
first_marked s (p ∷ ps) = marked s p

-- the first live object of the log in front lies in a span, and each other that lies in the log lies behind the span
pub record IsNextLeaving (s : State) (collection : List ℕ) (span : Span) : Type 0 where
  pub log : ℕ
  pub more : List ℕ
  pub front : collection ≡ log ∷ more
  pub rest : List ℕ
  pub first : live_in s log ≡ span.p ∷ rest
  pub behind : IsBoundary s log (span.at + size_of span.len)
  pub inside : span.at + size_of span.len ≤ LOG_WORDS
  pub others : (p len ds : ℕ) (place : Place) (marks : Marks) → read_of (s.cell p) ≡ Some (Near len ds place marks) → place.log ≡ log → p ≢ span.p →
      span.at + size_of span.len ≤ place.at
