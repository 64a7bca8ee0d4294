-- Which room of which log a command takes: one span, whose unused bytes turn live.
use Rattle.std.specs.Bool.{MatchBool}
use Rattle.std.specs.Prelude.{◌≡◌, ℕ, ◌+◌, ◌==◌, Bool, true, false, cond, Option, Some, None}
use Rattle.far_word.specs.declared.pointer.Place.{Place}
use Rattle.far_word.specs.declared.pointer.PtrWord.{PtrWord}
use Rattle.far_word.specs.declared.pointer.PtrWord.TheVariants as pointer
use Rattle.far_word.specs.Pointer.{read_of}
use Rattle.far_word.specs.Sizes.{size_of, bytes_taken}
use Rattle.far_core.specs.laws.Observed.{live_bytes, dead_bytes, unused_bytes}
use Rattle.far_core.specs.state.Room.{room}
use Rattle.far_events.specs.state.State.{State, put}
use Rattle.far_alone.specs.Effects.{is_slow}

-- nothing is taken of the logs: each ends where it did, and has so many live, dead and unused bytes as before
abbrev pub BytesStay : State → State → ℕ → Type 0
BytesStay s t l = (live_bytes t l ≡ live_bytes s l) × (dead_bytes t l ≡ dead_bytes s l) × (unused_bytes t l ≡ unused_bytes s l)

abbrev pub TakesNone : State → State → Type 0
TakesNone s t = (t.tail ≡ s.tail) × (t.kind ≡ s.kind) × ((l : ℕ) → BytesStay s t l)

-- the bytes of a log that an object of this length has, by the log where it lies, if it lies in one
abbrev pub share : Option ℕ → ℕ → ℕ → ℕ
share None len l = 0
share (Some k) len l = cond (k == l) (bytes_taken len) 0

-- what becomes of a log when an object comes to one: unused bytes there become live, and where it lay its bytes turn from live to dead
pub record BytesMove (s t : State) (len : ℕ) (from : Option ℕ) (to l : ℕ) : Type 0 where
  pub live : live_bytes t l + share from len l ≡ live_bytes s l + share (Some to) len l
  pub dead : dead_bytes t l ≡ dead_bytes s l + share from len l
  pub unused : unused_bytes t l + share (Some to) len l ≡ unused_bytes s l

-- an object of so many bytes, which lay in a log or didn't, takes a span at the end of the log that room says
abbrev pub TakesSpan : State → ℕ → Option ℕ → Bool → State → Type 0
TakesSpan s len from reserve t =
    (place : Place) × (room s (size_of len) reserve ≡ Some place) × (t.tail ≡ put s.tail place.log (place.at + size_of len)) × ((l : ℕ) → BytesMove s t len from place.log l)

-- what it takes to bring an object to where a view may rest, by what its cell says: nothing where it stays; else its span. A near one, which goes where it has EVAC, may take the last
-- free log; a far one may not
abbrev pub BringTakes : State → Option PtrWord → State → Type 0
BringTakes s None t = TakesNone s t
BringTakes s (Some pointer.Free) t = TakesNone s t
BringTakes s (Some (pointer.Near len ds place marks)) t = MatchBool marks.evac (TakesSpan s len (Some place.log) false t) (TakesNone s t)
BringTakes s (Some (pointer.Far len ds marks)) t = TakesSpan s len None true t

-- there is no room for that
abbrev pub LacksRoom : State → Option PtrWord → Type 0
LacksRoom s None = ⊥
LacksRoom s (Some pointer.Free) = ⊥
LacksRoom s (Some (pointer.Near len ds place marks)) = (marks.evac ≡ true) × (room s (size_of len) false ≡ None)
LacksRoom s (Some (pointer.Far len ds marks)) = room s (size_of len) true ≡ None

-- what a dereference takes: nothing where its pin gives a view
abbrev pub DereferenceTakes : State → ℕ → State → Type 0
DereferenceTakes s p t = MatchBool (is_slow s p) (BringTakes s (read_of (s.cell p)) t) (TakesNone s t)

-- and where it is refused for want of room: there is none, and it takes nothing
abbrev pub DereferenceLacks : State → ℕ → State → Type 0
DereferenceLacks s p t = (is_slow s p ≡ true) × LacksRoom s (read_of (s.cell p)) × TakesNone s t

-- a drop: no span; a near object's bytes become dead, as `EndsObject` says, and else nothing is taken
abbrev pub DropTakes : State → Option PtrWord → State → Type 0
DropTakes s (Some (pointer.Near len ds place marks)) t = (t.tail ≡ s.tail) × (t.kind ≡ s.kind)
DropTakes s _ t = TakesNone s t
