-- Which marks a read, a write, a view or a try leaves in its object's cell, by its reply: said by the cells of the moment before and of the one after.
use Rattle.std.specs.Prelude.{◌≡◌, ◌≢◌, ℕ, Bool, true, false, Ok, Option, Some, None, List, ◌∷◌, All}
use Rattle.far_word.specs.declared.pointer.Place.{Place}
use Rattle.far_word.specs.declared.pointer.PtrWord.{PtrWord}
use Rattle.far_word.specs.declared.pointer.PtrWord.TheVariants.{Free, Near, Far}
use Rattle.far_word.specs.declared.refused.Refused.{Refused as Refusal}
use Rattle.far_word.specs.declared.refused.Refused.TheVariants.{NoRoom, Closed, NotHeld, Range, Device, Damaged, Marked as MarkFound}
use Rattle.far_word.specs.Pointer.{read_of}
use Rattle.far_events.specs.state.Law.{is_dirty}
use Rattle.far_events.specs.state.Shape.{is_shape}
use Rattle.far_events.specs.state.State.{State}
use Rattle.far_core.specs.world.WorldOf.{world_of}
use Rattle.far_replay.specs.Answers.{Answers, Commanded, IsMoment, first_moment, is_true, shape_of}
use Rattle.far_replay.specs.Moment.{Moment}
use Rattle.far_reply.specs.Reply.{Reply, Done, Data, Refused}
use Rattle.far_replay_laws.specs.Along.{AllAlong}
use Rattle.far_text.specs.Command.{Command, Heap, On, Reads, Writes, Views, Try, Mutator, Device as SaidDevice}
use Rattle.far_text.specs.Grammar.{trace_of}
use Rattle.far_replay_laws.specs.Headline.{IsSound}

-- ---- what two looks at a cell say, before and after
-- HOT came, unless it was there: what is named, its place and all other marks are as before
abbrev pub GainsHot : Option PtrWord → Option PtrWord → Type 0
GainsHot None now = ⊥
GainsHot (Some Free) now = ⊥
GainsHot (Some (Near len ds place m)) now = now ≡ Some (Near len ds place record { hot = true; evac = m.evac; moved = m.moved; dropped = m.dropped; dirty = m.dirty })
GainsHot (Some (Far len ds m)) now = now ≡ Some (Far len ds record { hot = true; evac = m.evac; moved = m.moved; dropped = m.dropped; dirty = m.dirty })

-- HOT came; and MOVE too to a near object, which has EVAC
abbrev pub GainsForRoom : Option PtrWord → Option PtrWord → Type 0
GainsForRoom None now = ⊥
GainsForRoom (Some Free) now = ⊥
GainsForRoom (Some (Near len ds place m)) now = (m.evac ≡ true) × (now ≡ Some (Near len ds place record { hot = true; evac = true; moved = true; dropped = m.dropped; dirty = m.dirty }))
GainsForRoom (Some (Far len ds m)) now = now ≡ Some (Far len ds record { hot = true; evac = m.evac; moved = m.moved; dropped = m.dropped; dirty = m.dirty })

-- it is near, and has HOT
abbrev pub is_hot : Option PtrWord → Bool
is_hot None = false
is_hot (Some Free) = false
is_hot (Some (Near len ds place m)) = m.hot
is_hot (Some (Far len ds m)) = false

-- it is near, with HOT and no other mark but DIRTY, and that as said
abbrev pub IsHotAlone : Bool → Option PtrWord → Type 0
IsHotAlone dirty now = (len ds : ℕ) × (place : Place) × (now ≡ Some (Near len ds place record { hot = true; evac = false; moved = false; dropped = false; dirty = dirty }))

-- DIRTY came to a near object, unless it was there: what is named, its place and all other marks are as before
abbrev pub GainsDirty : Option PtrWord → Option PtrWord → Type 0
GainsDirty None now = ⊥
GainsDirty (Some Free) now = ⊥
GainsDirty (Some (Near len ds place m)) now = now ≡ Some (Near len ds place record { hot = m.hot; evac = m.evac; moved = m.moved; dropped = m.dropped; dirty = true })
GainsDirty (Some (Far len ds m)) now = ⊥

-- ---- what a command leaves
abbrev pub OthersStay : State → State → ℕ → Type 0
OthersStay s t p = (q : ℕ) → q ≢ p → t.cell q ≡ s.cell q

-- an object is viewed: its cell has HOT. Where it was viewed before, the cell stays as it was; else it has no other mark but DIRTY, if it had that and was near
pub record LeavesHot (s t : State) (p : ℕ) : Type 0 where
  pub hot : is_hot (read_of (t.cell p)) ≡ true
  pub again : (world_of s).viewed p ≡ true → t.cell p ≡ s.cell p
  pub anew : (world_of s).viewed p ≡ false → IsHotAlone (is_dirty (read_of (s.cell p))) (read_of (t.cell p))
  pub others : OthersStay s t p

-- it is viewed and written: its cell has HOT and DIRTY. Where it was viewed before, all other marks are as before; else it has no other
pub record LeavesWritten (s t : State) (p : ℕ) : Type 0 where
  pub hot : is_hot (read_of (t.cell p)) ≡ true
  pub again : (world_of s).viewed p ≡ true → GainsDirty (read_of (s.cell p)) (read_of (t.cell p))
  pub anew : (world_of s).viewed p ≡ false → IsHotAlone true (read_of (t.cell p))
  pub others : OthersStay s t p

-- a dereference is refused. Before the pin, for an unknown mutator or a range past the object's end, a closed scope, or a pointer that its mutator doesn't use, no cell
-- changes; after it, for want of room, or by the device
abbrev pub RefusedLeaves : State → ℕ → Refusal → State → Type 0
RefusedLeaves s p Range t = t.cell ≡ s.cell
RefusedLeaves s p Closed t = t.cell ≡ s.cell
RefusedLeaves s p NotHeld t = t.cell ≡ s.cell
RefusedLeaves s p NoRoom t = GainsForRoom (read_of (s.cell p)) (read_of (t.cell p)) × OthersStay s t p
RefusedLeaves s p Device t = GainsHot (read_of (s.cell p)) (read_of (t.cell p)) × OthersStay s t p
RefusedLeaves s p Damaged t = GainsHot (read_of (s.cell p)) (read_of (t.cell p)) × OthersStay s t p
RefusedLeaves s p why t = ⊥

-- and a try: after the pin, for a mark or a far object alone, with the word from before the pin
abbrev pub TryLeaves : State → ℕ → Refusal → State → Type 0
TryLeaves s p Range t = t.cell ≡ s.cell
TryLeaves s p Closed t = t.cell ≡ s.cell
TryLeaves s p NotHeld t = t.cell ≡ s.cell
TryLeaves s p (MarkFound word) t = (word ≡ s.cell p) × GainsHot (read_of (s.cell p)) (read_of (t.cell p)) × OthersStay s t p
TryLeaves s p why t = ⊥

-- by each reply that comes
abbrev pub LeavesMarks : State → Command → Reply → State → Type 0
LeavesMarks s (Mutator m (On p how)) (Refused why) t = RefusedLeaves s p why t
LeavesMarks s (Mutator m (On p (Reads from len))) (Data bytes) t = LeavesHot s t p
LeavesMarks s (Mutator m (On p (Writes from bytes))) Done t = LeavesWritten s t p
LeavesMarks s (Mutator m (On p Views)) Done t = LeavesHot s t p
LeavesMarks s (Mutator m (On p how)) r t = ⊥
LeavesMarks s (Mutator m (Try p)) Done t = LeavesHot s t p
LeavesMarks s (Mutator m (Try p)) (Refused why) t = TryLeaves s p why t
LeavesMarks s (Mutator m (Try p)) r t = ⊥
LeavesMarks s c r t = Unit {0}

abbrev pub AllLeaveMarks : Moment → List Command → List Reply → List Moment → Type 0
AllLeaveMarks = AllAlong (λ now c r after. LeavesMarks now.core c r after.core)

-- what is viewed has HOT
abbrev pub ViewedAreHot : State → Type 0
ViewedAreHot s = (p : ℕ) → (world_of s).viewed p ≡ true → is_hot (read_of (s.cell p)) ≡ true

-- ---- the laws
abbrev pub CommandsLeaveMarks : Type 0
CommandsLeaveMarks = (now : Moment) (c : Command) (r : Reply) (after : Moment) → IsMoment now → Commanded now c r after → LeavesMarks now.core c r after.core

abbrev pub ViewsAreHot : Type 0
ViewsAreHot = (now : Moment) → IsMoment now → ViewedAreHot now.core

-- a sound output tells commands that leave these marks, and in each of its moments what is viewed has HOT
abbrev pub TextsLeaveMarks : Type 0
TextsLeaveMarks = (text output : List ℕ) (logs mutators epoch : ℕ) (device : Option SaidDevice) (cs : List Command) → Answers text output → trace_of text ≡ Ok (Heap logs mutators epoch device cs) →
    is_shape (shape_of logs mutators epoch) ≡ true →
    (x : IsSound logs mutators epoch device cs output) × AllLeaveMarks (first_moment logs mutators epoch (is_true device)) cs x.replies x.moments × All (λ (now : Moment). ViewedAreHot now.core) (first_moment logs mutators epoch (is_true device) ∷ x.moments)
