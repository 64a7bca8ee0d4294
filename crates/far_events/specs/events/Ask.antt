-- An owner asks for a pointer of its own to be moved, or drops it: MOVE or DROP is set.
use Rattle.std.specs.Prelude.{◌≡◌, ◌/◌, ◌^◌, ◌==◌, ◌&&◌, ◌<◌, nat_lt, ℕ, Bool, true, false, not, Option, Some, None, bit_or, is_some}
use Rattle.far_word.specs.declared.mark.Mark.{Mark}
use Rattle.far_word.specs.declared.mark.Mark.TheVariants.{Hot, Evac, Moved, Dropped, Dirty}
use Rattle.far_word.specs.declared.pointer.PtrWord.{PtrWord}
use Rattle.far_word.specs.declared.sizes.TheConstants.{CELLS}
use Rattle.far_word.specs.Mark.{position}
use Rattle.far_word.specs.Pointer.{read_of, with_mark}
use Rattle.far_events.specs.declared.event.Reply.{Reply}
use Rattle.far_events.specs.declared.event.Reply.TheVariants.{Word}
use Rattle.far_events.specs.state.State.{State, put}
use Rattle.far_events.specs.events.Touch.{CellAt, Uses}
use Rattle.far_events.specs.events.Changes.{Change}
use Rattle.far_events.specs.events.Changes as change
use Rattle.far_events.specs.events.Rule.{Form, Rule}

-- the marks by which an owner asks
abbrev pub is_request : Mark → Bool
is_request Hot = false
is_request Evac = false
is_request Moved = true
is_request Dropped = true
is_request Dirty = false

-- what an owner uses, once it has asked: what it drops, no longer
abbrev pub used_after : (ℕ → Bool) → ℕ → Mark → ℕ → Bool
used_after used p Hot = used
used_after used p Evac = used
used_after used p Moved = used
used_after used p Dropped = put used p false
used_after used p Dirty = used

abbrev pub AskReports : State → ℕ → Mark → Reply → State → Type 0
AskReports s p k (Word w) t = (w ≡ s.cell p) × ((v : PtrWord) → read_of w ≡ Some v → read_of (t.cell p) ≡ Some (with_mark k v))
    × (k ≡ Dropped → t.used p ≡ false) × (k ≡ Moved → t.used p ≡ true)
AskReports s p k r t = ⊥

abbrev pub ask_rule : State → ℕ → ℕ → Mark → Rule
ask_rule s m p k = record {
  test = is_request k && nat_lt m s.mutators && (p / CELLS == m) && s.used p && not (is_some (s.held p));
  after = record s { cell = put s.cell p (bit_or (s.cell p) (2 ^ position k)); used = used_after s.used p k };
  answer = Word (s.cell p);
  Legal = (is_request k ≡ true) × (m < s.mutators) × (p / CELLS ≡ m) × (s.used p ≡ true) × (s.held p ≡ None);
  Reports = AskReports s p k;
  touches = record { word = Some (CellAt p); part = Uses p };
}

abbrev pub ask_change : ℕ → ℕ → Mark → Reply → Option Change
ask_change m p Moved (Word x) = Some (change.Marks p)
ask_change m p Dropped (Word x) = Some (change.Drops m p)
ask_change m p k r = None

abbrev pub ask_form : ℕ → ℕ → Mark → Form
ask_form m p k = record { Fits = Unit {0}; change = ask_change m p k }
