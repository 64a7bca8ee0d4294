-- What one command does to an object, to a view, and to the logs in which views rest.
use Rattle.std.specs.Prelude.{◌≡◌, ◌≢◌, ℕ, ◌+◌, true, false, is_some, Some, None, List, ◌++◌}
use Rattle.far_word.specs.declared.mark.Marks.{Marks}
use Rattle.far_word.specs.declared.pointer.Place.{Place}
use Rattle.far_word.specs.declared.pointer.PtrWord.TheVariants as pointer
use Rattle.far_word.specs.Pointer.{read_of}
use Rattle.far_word.specs.Sizes.{bytes_taken}
use Rattle.far_events.specs.declared.event.Kind.TheVariants as kinds
use Rattle.far_events.specs.declared.event.Event.{Event}
use Rattle.far_core.specs.laws.Observed.{live_bytes, dead_bytes}
use Rattle.far_events.specs.state.State.{State, put}
use Rattle.far_core.specs.world.WorldOf.{world_of}
use Rattle.far_events.specs.events.Ranges.{after_events}

-- a log in which a view rests in s isn't free in t
abbrev pub LogStays : State → State → Type 0
LogStays s t = (p : ℕ) (place : Place) → s.held p ≡ Some place → t.kind place.log ≢ kinds.Free

-- through a row of events: a log that holds a view after the first i of them isn't free after its first k, for i ≤ k
abbrev pub StayThrough : State → List Event → Type 0
StayThrough s events = (es mid rest : List Event) → es ++ mid ++ rest ≡ events → LogStays (after_events s es) (after_events s (es ++ mid))

-- what an object leaves that is dropped: no object of its pointer, whose cell is free and which its owner doesn't use; all other objects, the words and spans of
-- the logs, views and all else stay; and the bytes that it took, if it lay near, are dead in its log
pub record EndsObject (s t : State) (p : ℕ) : Type 0 where
  pub object : (world_of t).object ≡ put (world_of s).object p None
  pub rest : t ≡ record s { cell = put s.cell p 0; used = put s.used p false }
  pub live : (len ds : ℕ) (place : Place) (marks : Marks) → read_of (s.cell p) ≡ Some (pointer.Near len ds place marks) → live_bytes t place.log + bytes_taken len ≡ live_bytes s place.log
  pub dead : (len ds : ℕ) (place : Place) (marks : Marks) → read_of (s.cell p) ≡ Some (pointer.Near len ds place marks) → dead_bytes t place.log ≡ dead_bytes s place.log + bytes_taken len
  pub others : (len ds : ℕ) (place : Place) (marks : Marks) → read_of (s.cell p) ≡ Some (pointer.Near len ds place marks) → (l : ℕ) → l ≢ place.log →
      (live_bytes t l ≡ live_bytes s l) × (dead_bytes t l ≡ dead_bytes s l)

-- a command views an object: it is viewed then, where it was already if it was, and all other views stay
pub record ViewsObject (s t : State) (p : ℕ) : Type 0 where
  pub viewed : is_some (t.held p) ≡ true
  pub kept : (place : Place) → s.held p ≡ Some place → t.held p ≡ Some place
  pub others : (q : ℕ) → q ≢ p → t.held q ≡ s.held q
