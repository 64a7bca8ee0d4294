-- An open owner closes its scope.
use Rattle.std.specs.Prelude.{◌≡◌, ◌/◌, ◌==◌, ℕ, cond, false, None, Some, Option}
use Rattle.far_word.specs.declared.sizes.TheConstants.{CELLS}
use Rattle.far_events.specs.declared.event.Reply.{Reply}
use Rattle.far_events.specs.declared.event.Reply.TheVariants.{Done}
use Rattle.far_word.specs.Scope.{scope_word}
use Rattle.far_word.specs.declared.scope.ScopeWord.TheVariants as scoped
use Rattle.far_events.specs.state.State.{State, put}
use Rattle.far_events.specs.events.Touch.{ScopeAt, LetsGo}
use Rattle.far_events.specs.events.Changes.{Change}
use Rattle.far_events.specs.events.Changes as change
use Rattle.far_events.specs.events.Rule.{Form, Rule}
use Rattle.far_events.specs.events.Owners.{is_opened, IsOpen}

abbrev pub after_close : State → ℕ → State
after_close s m = record s {
  scope = put s.scope m (scope_word scoped.Closed);
  remembered = put s.remembered m None;
  held = λ p. cond (p / CELLS == m) None (s.held p);
  soiled = λ p. cond (p / CELLS == m) false (s.soiled p);
}

abbrev pub CloseReports : State → ℕ → Reply → State → Type 0
CloseReports s m Done t = (t.scope m ≡ 0) × (t.remembered m ≡ None) × ((p : ℕ) → p / CELLS ≡ m → (t.held p ≡ None) × (t.soiled p ≡ false))
CloseReports s m r t = ⊥

abbrev pub close_rule : State → ℕ → Rule
close_rule s m = record {
  test = is_opened s m;
  after = after_close s m;
  answer = Done;
  Legal = IsOpen s m;
  Reports = CloseReports s m;
  touches = record { word = Some (ScopeAt m); part = LetsGo m };
}

abbrev pub close_change : ℕ → Reply → Option Change
close_change m Done = Some (change.Closes m)
close_change m r = None

abbrev pub close_form : ℕ → Form
close_form m = record { Fits = Unit {0}; change = close_change m }
