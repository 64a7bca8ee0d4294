-- An owner writes a word of an object that it holds, and has soiled.
use Rattle.std.specs.Prelude.{◌≡◌, ◌+◌, ◌-◌, ◌*◌, ◌^◌, ◌<◌, ◌&&◌, ℕ, true, nat_lt, Some, Option, None}
use Rattle.far_word.specs.declared.pointer.Place.{Place}
use Rattle.far_word.specs.Sizes.{words_for}
use Rattle.far_events.specs.declared.event.Reply.TheVariants.{Done}
use Rattle.far_events.specs.declared.event.Reply.{Reply}
use Rattle.far_events.specs.state.State.{State, put, addr}
use Rattle.far_events.specs.events.Touch.{WordAt, NoPart}
use Rattle.far_events.specs.events.Changes.{Change}
use Rattle.far_events.specs.events.Changes as change
use Rattle.far_events.specs.events.Rule.{Form, Rule}
use Rattle.far_events.specs.events.Owners.{holds, data_len, data_word, keeps_padding, HoldsWord}

-- word i of the data after the header of the object that is held is the word from now on
abbrev pub StoreReports : State → ℕ → ℕ → ℕ → ℕ → Reply → State → Type 0
StoreReports s m p i w Done t = (place : Place) × (s.held p ≡ Some place) × (t.word (addr place + 1 + i) ≡ w)
StoreReports s m p i w r t = ⊥

abbrev pub store_rule : State → ℕ → ℕ → ℕ → ℕ → Rule
store_rule s m p i w = record {
  test = holds s m p && nat_lt i (words_for (data_len s p)) && keeps_padding (data_len s p) i w && s.soiled p;
  after = record s { word = put s.word (data_word s p i) w };
  answer = Done;
  Legal = (len : ℕ) × HoldsWord s m p i len × (w < 2 ^ (8 * (len - 8 * i))) × (s.soiled p ≡ true);
  Reports = StoreReports s m p i w;
  touches = record { word = Some (WordAt (data_word s p i)); part = NoPart };
}

abbrev pub store_change : ℕ → ℕ → ℕ → ℕ → Reply → Option Change
store_change m p i w Done = Some (change.Writes m p i w)
store_change m p i w r = None

abbrev pub store_form : ℕ → ℕ → ℕ → ℕ → Form
store_form m p i w = record { Fits = w < 2 ^ 64; change = store_change m p i w }
