-- What must be known to begin a round, and what is known once a scope was looked at.
use Rattle.std.specs.Prelude.{◌≡◌, ◌<◌, ◌≤◌, ◌||◌, ℕ, true, Some, IsSome}
use Rattle.far_word.specs.declared.scope.ScopeWord.TheVariants as scoped
use Rattle.far_word.specs.Pointer.{read_of}
use Rattle.far_word.specs.Scope.{scope_of}
use Rattle.far_events.specs.declared.event.Kind.TheVariants.{Sealed}
use Rattle.far_events.specs.events.Advance.{is_among}
use Rattle.far_events.specs.events.Look.{shows_clear}
use Rattle.far_events.specs.state.Law.{HasEvac}
use Rattle.far_events.specs.state.State.{State, put}

-- these logs may be the round's: each is sealed, and whatever lies there has EVAC, also under DROP
pub record MayChoose (s : State) (logs : ℕ) : Type 0 where
  pub shut : (l : ℕ) → is_among logs l ≡ true → (l < s.logs) × (s.kind l ≡ Sealed)
  pub marked : (p : ℕ) → HasEvac (is_among logs) (read_of (s.cell p))

-- the owner is clear from then on, if the word that was found in its scope shows it
abbrev pub looked_at : State → ℕ → ℕ → State
looked_at s m word = record s { clear = put s.clear m (s.clear m || shows_clear s.round_epoch (scope_of word)) }

-- the word of a scope that is closed, or open at this epoch or before
pub record IsScopeAt (epoch word : ℕ) : Type 0 where
  pub layout : IsSome (scope_of word)
  pub bound : (e : ℕ) → scope_of word ≡ Some (scoped.Open e) → e ≤ epoch
