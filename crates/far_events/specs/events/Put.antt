-- A word past the tail of a log that isn't sealed is written.
use Rattle.std.specs.Prelude.{◌≡◌, ◌≢◌, ◌+◌, ◌*◌, ◌<◌, ◌≤◌, ◌&&◌, ℕ, Bool, false, nat_lt, nat_le, Some, Option, None, ◌^◌}
use Rattle.far_word.specs.declared.sizes.TheConstants.{LOG_WORDS}
use Rattle.far_events.specs.declared.event.Kind.{Kind}
use Rattle.far_events.specs.declared.event.Reply.{Reply}
use Rattle.far_events.specs.declared.event.Reply.TheVariants.{Done}
use Rattle.far_events.specs.state.State.{State, put}
use Rattle.far_events.specs.events.Touch.{WordAt, NoPart}
use Rattle.far_events.specs.events.Changes.{Change}
use Rattle.far_events.specs.events.Changes as change
use Rattle.far_events.specs.events.Rule.{Form, Rule}
use Rattle.far_events.specs.declared.event.Kind.TheVariants as kinds

-- past the tail of a log that isn't sealed
abbrev pub is_past : Kind → ℕ → ℕ → Bool
is_past kinds.Free at tail = nat_le tail at
is_past kinds.Open at tail = nat_le tail at
is_past kinds.Sealed at tail = false

abbrev pub PutReports : State → ℕ → ℕ → ℕ → Reply → State → Type 0
PutReports s l at w Done t = t.word (l * LOG_WORDS + at) ≡ w
PutReports s l at w r t = ⊥

abbrev pub put_rule : State → ℕ → ℕ → ℕ → Rule
put_rule s l at w = record {
  test = nat_lt l s.logs && nat_lt at LOG_WORDS && is_past (s.kind l) at (s.tail l);
  after = record s { word = put s.word (l * LOG_WORDS + at) w };
  answer = Done;
  Legal = (l < s.logs) × (s.kind l ≢ kinds.Sealed) × (s.tail l ≤ at) × (at < LOG_WORDS);
  Reports = PutReports s l at w;
  touches = record { word = Some (WordAt (l * LOG_WORDS + at)); part = NoPart };
}

abbrev pub put_change : ℕ → ℕ → ℕ → Reply → Option Change
put_change l at w Done = Some change.Stays
put_change l at w r = None

abbrev pub put_form : ℕ → ℕ → ℕ → Form
put_form l at w = record { Fits = w < 2 ^ 64; change = put_change l at w }
