-- The book looks at an owner's scope, and may see it clear.
use Rattle.std.specs.Prelude.{◌≡◌, ◌≢◌, ◌⊎◌, ◌<◌, ◌≤◌, ◌||◌, ℕ, Bool, true, false, nat_le, nat_lt, Option, Some, None}
use Rattle.far_word.specs.declared.scope.ScopeWord.{ScopeWord}
use Rattle.far_word.specs.declared.scope.ScopeWord.TheVariants as scoped
use Rattle.far_word.specs.Scope.{scope_of}
use Rattle.far_events.specs.declared.event.Reply.{Reply}
use Rattle.far_events.specs.declared.event.Reply.TheVariants.{Word}
use Rattle.far_events.specs.state.State.{State, put}
use Rattle.far_events.specs.events.Rule.{Form, Rule, only_word}
use Rattle.far_events.specs.events.Touch.{BookView}

-- a scope is closed, or open at this epoch or later: its owner began after the epoch had risen
abbrev pub shows_clear : ℕ → Option ScopeWord → Bool
shows_clear epoch None = false
shows_clear epoch (Some scoped.Closed) = true
shows_clear epoch (Some (scoped.Open e)) = nat_le epoch e

abbrev pub ShowsClear : ℕ → ℕ → Type 0
ShowsClear epoch w = (scope_of w ≡ Some scoped.Closed) ⊎ ((e : ℕ) × (scope_of w ≡ Some (scoped.Open e)) × (epoch ≤ e))

-- who was seen clear stays so in this round
abbrev pub looked : State → ℕ → State
looked s m = record s { clear = put s.clear m (s.clear m || shows_clear s.round_epoch (scope_of (s.scope m))) }

-- the owner is clear from then on, if its scope shows it; else it is as it was; all else stays
pub record Looks (s : State) (m : ℕ) (t : State) : Type 0 where
  pub seen : ShowsClear s.round_epoch (s.scope m) → t.clear m ≡ true
  pub still : s.clear m ≡ true → t.clear m ≡ true
  pub only : t.clear m ≡ true → (s.clear m ≡ true) ⊎ ShowsClear s.round_epoch (s.scope m)
  pub others : (k : ℕ) → k ≢ m → t.clear k ≡ s.clear k
  pub rest : t ≡ record s { clear = t.clear }

abbrev pub LookReports : State → ℕ → Reply → State → Type 0
LookReports s m (Word w) t = (w ≡ s.scope m) × Looks s m t
LookReports s m r t = ⊥

abbrev pub look_rule : State → ℕ → Rule
look_rule s m = record {
  test = nat_lt m s.mutators;
  after = looked s m;
  answer = Word (s.scope m);
  Legal = m < s.mutators;
  Reports = LookReports s m;
  touches = record { word = None; part = BookView };
}

abbrev pub look_form : Form
look_form = record { Fits = Unit {0}; change = only_word }
