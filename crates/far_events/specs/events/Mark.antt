-- The book marks a near pointer in a sealed log.
use Rattle.std.specs.Prelude.{◌≡◌, ◌*◌, ◌<◌, ◌^◌, ◌&&◌, ℕ, Bool, true, false, nat_lt, Option, Some, None, bit_or}
use Rattle.far_word.specs.declared.mark.Mark.TheVariants.{Evac}
use Rattle.far_word.specs.declared.mark.Marks.{Marks}
use Rattle.far_word.specs.declared.pointer.Place.{Place}
use Rattle.far_word.specs.declared.pointer.PtrWord.{PtrWord}
use Rattle.far_word.specs.declared.pointer.PtrWord.TheVariants.{Free, Near, Far}
use Rattle.far_word.specs.declared.sizes.TheConstants.{CELLS}
use Rattle.far_word.specs.Mark.{position}
use Rattle.far_word.specs.Pointer.{read_of, with_mark}
use Rattle.far_events.specs.declared.event.Kind.{Kind}
use Rattle.far_events.specs.declared.event.Kind.TheVariants as kinds
use Rattle.far_events.specs.declared.event.Reply.{Reply}
use Rattle.far_events.specs.declared.event.Reply.TheVariants.{Word}
use Rattle.far_events.specs.events.Changes.{Change}
use Rattle.far_events.specs.events.Changes as change
use Rattle.far_events.specs.state.State.{State, put}
use Rattle.far_events.specs.events.Touch.{CellAt, NoPart}
use Rattle.far_events.specs.events.Rule.{Rule, Form}

abbrev pub is_sealed : Kind → Bool
is_sealed kinds.Free = false
is_sealed kinds.Open = false
is_sealed kinds.Sealed = true

abbrev pub may_mark : State → Option PtrWord → Bool
may_mark s None = false
may_mark s (Some Free) = false
may_mark s (Some (Near len ds place m)) = nat_lt place.log s.logs && is_sealed (s.kind place.log)
may_mark s (Some (Far len ds m)) = false

-- near, in a sealed log
abbrev pub IsSealedNear : State → ℕ → Type 0
IsSealedNear s p = (len ds : ℕ) × (place : Place) × (m : Marks) × (read_of (s.cell p) ≡ Some (Near len ds place m)) × (place.log < s.logs) × (s.kind place.log ≡ kinds.Sealed)

abbrev pub MarkReports : State → ℕ → Reply → State → Type 0
MarkReports s p (Word w) t = (w ≡ s.cell p) × ((v : PtrWord) → read_of w ≡ Some v → read_of (t.cell p) ≡ Some (with_mark Evac v))
MarkReports s p r t = ⊥

abbrev pub mark_rule : State → ℕ → Rule
mark_rule s p = record {
  test = nat_lt p (CELLS * s.mutators) && may_mark s (read_of (s.cell p));
  after = record s { cell = put s.cell p (bit_or (s.cell p) (2 ^ position Evac)) };
  answer = Word (s.cell p);
  Legal = (p < CELLS * s.mutators) × IsSealedNear s p;
  Reports = MarkReports s p;
  touches = record { word = Some (CellAt p); part = NoPart };
}

abbrev pub mark_change : ℕ → Reply → Option Change
mark_change p (Word x) = Some (change.Marks p)
mark_change p r = None

abbrev pub mark_form : ℕ → Form
mark_form p = record { Fits = Unit {0}; change = mark_change p }
