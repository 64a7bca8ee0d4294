-- An owner marks an object that it holds as written: DIRTY is set, and it remembers so until it closes.
use Rattle.std.specs.Prelude.{◌≡◌, ◌/◌, ◌^◌, ℕ, true, Some, IsSome, bit_or}
use Rattle.far_word.specs.declared.mark.Mark.TheVariants.{Dirty}
use Rattle.far_word.specs.declared.pointer.PtrWord.{PtrWord}
use Rattle.far_word.specs.declared.sizes.TheConstants.{CELLS}
use Rattle.far_word.specs.Mark.{position}
use Rattle.far_word.specs.Pointer.{read_of, with_mark}
use Rattle.far_events.specs.declared.event.Reply.{Reply}
use Rattle.far_events.specs.declared.event.Reply.TheVariants.{Word}
use Rattle.far_events.specs.state.State.{State, put}
use Rattle.far_events.specs.events.Owners.{holds}
use Rattle.far_events.specs.events.Touch.{CellAt, Soils}
use Rattle.far_events.specs.events.Rule.{Form, Rule, only_word}

abbrev pub after_soil : State → ℕ → State
after_soil s p = record s { cell = put s.cell p (bit_or (s.cell p) (2 ^ position Dirty)); soiled = put s.soiled p true }

abbrev pub SoilReports : State → ℕ → Reply → State → Type 0
SoilReports s p (Word w) t = (w ≡ s.cell p) × (t.soiled p ≡ true) × ((v : PtrWord) → read_of w ≡ Some v → read_of (t.cell p) ≡ Some (with_mark Dirty v))
SoilReports s p r t = ⊥

abbrev pub soil_rule : State → ℕ → ℕ → Rule
soil_rule s m p = record {
  test = holds s m p;
  after = after_soil s p;
  answer = Word (s.cell p);
  Legal = (p / CELLS ≡ m) × IsSome (s.held p);
  Reports = SoilReports s p;
  touches = record { word = Some (CellAt p); part = Soils p };
}

abbrev pub soil_form : Form
soil_form = record { Fits = Unit {0}; change = only_word }
