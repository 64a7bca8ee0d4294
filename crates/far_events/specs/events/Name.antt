-- The cell of a pointer goes from the old word to the new one.
use Rattle.std.specs.Prelude.{◌≡◌, ◌≢◌, ◌*◌, ◌<◌, ◌^◌, ◌==◌, ◌&&◌, if◌then◌else◌, ℕ, Bool, false, nat_lt, Option, Some, None, true}
use Rattle.far_word.specs.declared.sizes.TheConstants.{CELLS}
use Rattle.far_word.specs.Pointer.{read_of}
use Rattle.far_events.specs.declared.event.Reply.{Reply}
use Rattle.far_events.specs.declared.event.Reply.TheVariants.{Done, Word}
use Rattle.far_events.specs.declared.naming.Naming.{Naming}
use Rattle.far_events.specs.state.State.{State}
use Rattle.far_events.specs.events.Changes.{Change}
use Rattle.far_events.specs.events.Changes as change
use Rattle.far_events.specs.events.Naming.{naming_of, IsNaming, naming_row, naming_change}
use Rattle.far_events.specs.events.Rule.{Form, Rule}
use Rattle.far_events.specs.events.Touch.{CellAt, BookView}
use Rattle.far_events.specs.declared.event.Event.{Event}
use Rattle.far_events.specs.declared.event.Event.TheVariants.{Name}

-- two words make a form that may be made
abbrev pub IsLegalNaming : State → ℕ → ℕ → ℕ → Type 0
IsLegalNaming s p old new = (form : Naming) × IsNaming form (read_of old) (read_of new) × (naming_row s p new form).Legal

abbrev pub may_name : State → ℕ → ℕ → Option Naming → Bool
may_name s p new None = false
may_name s p new (Some form) = (naming_row s p new form).test

-- the state after a naming, where the cell was the old word
abbrev pub after_naming : State → ℕ → ℕ → Option Naming → State
after_naming s p new None = s
after_naming s p new (Some form) = (naming_row s p new form).after

abbrev pub NamingReports : State → ℕ → ℕ → Option Naming → State → Type 0
NamingReports s p new None t = ⊥
NamingReports s p new (Some form) t = (naming_row s p new form).Reports t

-- a naming that wins found the old word, and the cell is the new one; one that loses found another word, and changes nothing
abbrev pub NameReports : State → ℕ → ℕ → ℕ → Reply → State → Type 0
NameReports s p old new Done t = (s.cell p ≡ old) × (t.cell p ≡ new) × NamingReports s p new (naming_of (read_of old) (read_of new)) t
NameReports s p old new (Word w) t = (w ≡ s.cell p) × (w ≢ old) × (t ≡ s)
NameReports s p old new r t = ⊥

abbrev pub name_rule : State → ℕ → ℕ → ℕ → Rule
name_rule s p old new = record {
  test = nat_lt p (CELLS * s.mutators) && may_name s p new (naming_of (read_of old) (read_of new));
  after = if s.cell p == old then after_naming s p new (naming_of (read_of old) (read_of new)) else s;
  answer = if s.cell p == old then Done else Word (s.cell p);
  Legal = (p < CELLS * s.mutators) × IsLegalNaming s p old new;
  Reports = NameReports s p old new;
  touches = record { word = Some (CellAt p); part = BookView };
}

abbrev pub change_by : ℕ → Option Naming → Option Change
change_by p None = None
change_by p (Some form) = Some (naming_change p form)

abbrev pub name_change : ℕ → ℕ → ℕ → Reply → Option Change
name_change p old new Done = change_by p (naming_of (read_of old) (read_of new))
name_change p old new (Word x) = Some change.Stays
name_change p old new r = None

abbrev pub name_form : ℕ → ℕ → ℕ → Form
name_form p old new = record { Fits = (old < 2 ^ 64) × (new < 2 ^ 64); change = name_change p old new }

abbrev pub is_naming : Event → Bool
is_naming (Name p old new) = true
is_naming e = false
