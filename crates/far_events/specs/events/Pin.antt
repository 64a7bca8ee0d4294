-- An owner sets HOT, and holds the place where it may.
use Rattle.std.specs.Prelude.{◌≡◌, ◌/◌, ◌^◌, ◌==◌, ◌&&◌, ◌||◌, ℕ, true, not, Option, Some, None, bit_or, is_some}
use Rattle.far_word.specs.declared.mark.Marks.{Marks}
use Rattle.far_word.specs.declared.pointer.Place.{Place}
use Rattle.far_word.specs.declared.pointer.PtrWord.{PtrWord}
use Rattle.far_word.specs.declared.pointer.PtrWord.TheVariants.{Near}
use Rattle.far_word.specs.declared.mark.Mark.TheVariants.{Hot}
use Rattle.far_word.specs.declared.sizes.TheConstants.{CELLS}
use Rattle.far_word.specs.Mark.{position}
use Rattle.far_word.specs.Pointer.{read_of, view_place, with_mark}
use Rattle.far_events.specs.declared.event.Reply.{Reply}
use Rattle.far_events.specs.declared.event.Reply.TheVariants.{Word, Held}
use Rattle.far_events.specs.state.State.{State, put}
use Rattle.far_events.specs.events.Touch.{CellAt, Rests}
use Rattle.far_events.specs.events.Changes.{Change}
use Rattle.far_events.specs.events.Changes as change
use Rattle.far_events.specs.events.Rule.{Form, Rule}
use Rattle.far_events.specs.events.Owners.{is_opened, IsOpen}

-- where a view may rest, it is held from then on
abbrev pub with_hold : (ℕ → Option Place) → ℕ → Option Place → ℕ → Option Place
with_hold held p None = held
with_hold held p (Some place) = put held p (Some place)

-- where a new view of a cell may rest
abbrev pub place_to_view : Option PtrWord → Option Place
place_to_view None = None
place_to_view (Some v) = view_place v

abbrev pub after_pin : State → ℕ → State
after_pin s p = record s {
  cell = put s.cell p (bit_or (s.cell p) (2 ^ position Hot));
  held = with_hold s.held p (place_to_view (read_of (s.cell p)));
}

-- what a legal event answers
abbrev pub pin_answer : ℕ → Option Place → Reply
pin_answer w None = Word w
pin_answer w (Some place) = Held place

-- HOT is set on what was read
abbrev pub SetsHot : ℕ → ℕ → Type 0
SetsHot old new = (v : PtrWord) → read_of old ≡ Some v → read_of new ≡ Some (with_mark Hot v)

abbrev pub PinReports : State → ℕ → ℕ → Reply → State → Type 0
PinReports s m p (Held place) t = (t.held p ≡ Some place) × SetsHot (s.cell p) (t.cell p)
PinReports s m p (Word w) t = (w ≡ s.cell p) × (t.held p ≡ None) × SetsHot (s.cell p) (t.cell p)
    × ((len ds : ℕ) (place : Place) (k : Marks) → read_of w ≡ Some (Near len ds place k) → (k.evac || k.moved || k.dropped) ≡ true)
PinReports s m p r t = ⊥

abbrev pub pin_rule : State → ℕ → ℕ → Rule
pin_rule s m p = record {
  test = is_opened s m && (p / CELLS == m) && s.used p && not (is_some (s.held p));
  after = after_pin s p;
  answer = pin_answer (s.cell p) (place_to_view (read_of (s.cell p)));
  Legal = IsOpen s m × (p / CELLS ≡ m) × (s.used p ≡ true) × (s.held p ≡ None);
  Reports = PinReports s m p;
  touches = record { word = Some (CellAt p); part = Rests p };
}

abbrev pub pin_change : ℕ → ℕ → Reply → Option Change
pin_change m p (Held place) = Some (change.Views m p)
pin_change m p (Word x) = Some change.Stays
pin_change m p r = None

abbrev pub pin_form : ℕ → ℕ → Form
pin_form m p = record { Fits = Unit {0}; change = pin_change m p }
