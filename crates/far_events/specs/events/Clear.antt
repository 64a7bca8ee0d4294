-- The book takes EVAC from a near pointer, and its log leaves the round.
use Rattle.std.specs.Prelude.{◌≡◌, ◌≢◌, ◌*◌, ◌<◌, ◌^◌, ◌-◌, ◌&&◌, ℕ, Bool, true, false, cond, nat_lt, Option, Some, None, bit_and}
use Rattle.far_word.specs.declared.mark.Marks.{Marks}
use Rattle.far_word.specs.declared.pointer.Place.{Place}
use Rattle.far_word.specs.declared.pointer.PtrWord.{PtrWord}
use Rattle.far_word.specs.declared.pointer.PtrWord.TheVariants.{Free, Near, Far}
use Rattle.far_word.specs.declared.sizes.TheConstants.{CELLS}
use Rattle.far_word.specs.Pointer.{read_of, without_evac}
use Rattle.far_events.specs.declared.event.Reply.{Reply}
use Rattle.far_events.specs.declared.event.Reply.TheVariants.{Word}
use Rattle.far_events.specs.events.Changes.{Change}
use Rattle.far_events.specs.events.Changes as change
use Rattle.far_events.specs.state.State.{State, put}
use Rattle.far_events.specs.events.Quiet.{has_move}
use Rattle.far_events.specs.events.Touch.{CellAt, BookView}
use Rattle.far_events.specs.events.Rule.{Rule, Form}

abbrev pub is_near : Option PtrWord → Bool
is_near None = false
is_near (Some Free) = false
is_near (Some (Near len ds place m)) = true
is_near (Some (Far len ds m)) = false

abbrev pub IsNear : State → ℕ → Type 0
IsNear s p = (len ds : ℕ) × (place : Place) × (m : Marks) × (read_of (s.cell p) ≡ Some (Near len ds place m))

-- a word without the bit of EVAC
abbrev pub evac_cleared : ℕ → ℕ
evac_cleared w = bit_and w (2 ^ 64 - 1 - 2 ^ 61)

-- a round that the log of a cell's object leaves
abbrev pub round_left : (ℕ → Bool) → Option PtrWord → ℕ → Bool
round_left round None = round
round_left round (Some Free) = round
round_left round (Some (Near len ds place m)) = put round place.log false
round_left round (Some (Far len ds m)) = round

-- the log of a near cell is out of the round, and all others stay as they were
abbrev pub LeavesRound : State → ℕ → State → Type 0
LeavesRound s w t = (len ds : ℕ) (place : Place) (m : Marks) → read_of w ≡ Some (Near len ds place m) → (t.round place.log ≡ false) × ((l : ℕ) → l ≢ place.log → t.round l ≡ s.round l)

-- the cell has no EVAC, and is as it was but for that; its log is out of the round, who was seen clear stays so, and no log and no stored word changes
abbrev pub ClearReports : State → ℕ → Reply → State → Type 0
ClearReports s p (Word w) t = (w ≡ s.cell p) × ((v : PtrWord) → read_of w ≡ Some v → read_of (t.cell p) ≡ Some (without_evac v)) × LeavesRound s w t
    × (t.kind ≡ s.kind) × (t.tail ≡ s.tail) × (t.current ≡ s.current) × (t.starts ≡ s.starts) × (t.stored ≡ s.stored) × (t.clear ≡ s.clear) × (t.round_epoch ≡ s.round_epoch)
ClearReports s p r t = ⊥

abbrev pub clear_rule : State → ℕ → Rule
clear_rule s p = record {
  test = nat_lt p (CELLS * s.mutators) && is_near (read_of (s.cell p));
  after = record s { cell = put s.cell p (evac_cleared (s.cell p)); round = round_left s.round (read_of (s.cell p)) };
  answer = Word (s.cell p);
  Legal = (p < CELLS * s.mutators) × IsNear s p;
  Reports = ClearReports s p;
  touches = record { word = Some (CellAt p); part = BookView };
}

-- an object that its owner asked to be moved is marked still
abbrev pub clear_change : ℕ → Reply → Option Change
clear_change p (Word x) = Some (cond (has_move (read_of x)) change.Stays (change.Unmarks p))
clear_change p r = None

abbrev pub clear_form : ℕ → Form
clear_form p = record { Fits = Unit {0}; change = clear_change p }
