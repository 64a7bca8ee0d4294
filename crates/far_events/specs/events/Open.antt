-- A closed owner that has read an epoch opens its scope at it.
use Rattle.std.specs.Prelude.{◌≡◌, ◌&&◌, ℕ, Option, Some, None, is_some, IsSome}
use Rattle.far_word.specs.Scope.{scope_word}
use Rattle.far_events.specs.declared.event.Reply.{Reply}
use Rattle.far_events.specs.declared.event.Reply.TheVariants.{Done}
use Rattle.far_events.specs.state.State.{State, put}
use Rattle.far_events.specs.events.Touch.{ScopeAt, NoPart}
use Rattle.far_events.specs.events.Changes.{Change}
use Rattle.far_events.specs.events.Changes as change
use Rattle.far_events.specs.events.Rule.{Form, Rule}
use Rattle.far_events.specs.events.Owners.{is_closed, IsClosed}
use Rattle.far_word.specs.declared.scope.ScopeWord.TheVariants as scoped

-- the scope word at the epoch that was read, which may have risen since
abbrev pub scope_word_of : Option ℕ → ℕ
scope_word_of None = scope_word scoped.Closed
scope_word_of (Some e) = scope_word (scoped.Open e)

abbrev pub OpenReports : State → ℕ → Reply → State → Type 0
OpenReports s m Done t = (e : ℕ) × (s.remembered m ≡ Some e) × (t.scope m ≡ scope_word (scoped.Open e))
OpenReports s m r t = ⊥

abbrev pub open_rule : State → ℕ → Rule
open_rule s m = record {
  test = is_closed s m && is_some (s.remembered m);
  after = record s { scope = put s.scope m (scope_word_of (s.remembered m)) };
  answer = Done;
  Legal = IsClosed s m × IsSome (s.remembered m);
  Reports = OpenReports s m;
  touches = record { word = Some (ScopeAt m); part = NoPart };
}

abbrev pub open_change : ℕ → Reply → Option Change
open_change m Done = Some (change.Opens m)
open_change m r = None

abbrev pub open_form : ℕ → Form
open_form m = record { Fits = Unit {0}; change = open_change m }
