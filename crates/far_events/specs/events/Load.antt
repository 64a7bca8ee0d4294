-- An owner reads a word of an object that it holds.
use Rattle.std.specs.Prelude.{◌≡◌, ◌+◌, ◌&&◌, ℕ, nat_lt, None, Option, Some}
use Rattle.far_word.specs.declared.pointer.Place.{Place}
use Rattle.far_word.specs.Sizes.{words_for}
use Rattle.far_events.specs.declared.event.Reply.TheVariants.{Word}
use Rattle.far_events.specs.declared.event.Reply.{Reply}
use Rattle.far_events.specs.state.State.{State, addr}
use Rattle.far_events.specs.events.Touch.{NoPart}
use Rattle.far_events.specs.events.Changes.{Change}
use Rattle.far_events.specs.events.Changes as change
use Rattle.far_events.specs.events.Rule.{Form, Rule}
use Rattle.far_events.specs.events.Owners.{holds, data_len, data_word, HoldsWord}

-- the word is word i of the data after the header of the object that is held
abbrev pub LoadReports : State → ℕ → ℕ → ℕ → Reply → State → Type 0
LoadReports s m p i (Word w) t = (place : Place) × (s.held p ≡ Some place) × (w ≡ s.word (addr place + 1 + i)) × (t ≡ s)
LoadReports s m p i r t = ⊥

abbrev pub load_rule : State → ℕ → ℕ → ℕ → Rule
load_rule s m p i = record {
  test = holds s m p && nat_lt i (words_for (data_len s p));
  after = s;
  answer = Word (s.word (data_word s p i));
  Legal = (len : ℕ) × HoldsWord s m p i len;
  Reports = LoadReports s m p i;
  touches = record { word = None; part = NoPart };
}

abbrev pub load_change : ℕ → ℕ → ℕ → Reply → Option Change
load_change m p i (Word x) = Some (change.Reads m p i x)
load_change m p i r = None

abbrev pub load_form : ℕ → ℕ → ℕ → Form
load_form m p i = record { Fits = Unit {0}; change = load_change m p i }
