-- What a program may conclude from the world of a state.
use Rattle.std.specs.Prelude.{◌≡◌, ◌≢◌, ℕ, ◌+◌, ◌*◌, ◌/◌, ◌%◌, ◌^◌, ◌<◌, ◌↔◌, ◌||◌, true, false, Some, None, IsSome, length, slice_index}
use Rattle.far_word.specs.declared.mark.Marks.{Marks}
use Rattle.far_word.specs.declared.pointer.Place.{Place}
use Rattle.far_word.specs.declared.pointer.PtrWord.TheVariants.{Near, Far}
use Rattle.far_word.specs.declared.sizes.TheConstants.{CELLS}
use Rattle.far_word.specs.Pointer.{read_of}
use Rattle.far_events.specs.declared.event.Kind.TheVariants.{Free}
use Rattle.far_events.specs.state.Law.{in_use}
use Rattle.far_events.specs.state.State.{State, addr}
use Rattle.far_core.specs.world.World.{World, Object, Group, FarSide}
use Rattle.far_core.specs.world.WorldOf.{world_of}

-- a view of the world is of an object near, in a held group, whose owner's scope is open
pub record ViewRests (w : World) (p : ℕ) : Type 0 where
  pub opened : w.opened (p / CELLS) ≡ true
  pub near : (o : Object) × (g : ℕ) × (w.object p ≡ Some o) × (o.owner ≡ p / CELLS) × (o.home ≡ Group g) × (w.group g ≡ true)

-- an object is marked exactly where its cell has EVAC or MOVE; a far one's never has EVAC
abbrev pub MarksAgree : State → ℕ → Type 0
MarksAgree s p = ((len ds : ℕ) (place : Place) (m : Marks) → read_of (s.cell p) ≡ Some (Near len ds place m) → m.dropped ≡ false →
    (world_of s).marked p ≡ (m.evac || m.moved))
    × ((len ds : ℕ) (m : Marks) → read_of (s.cell p) ≡ Some (Far len ds m) → m.dropped ≡ false → (world_of s).marked p ≡ m.moved)

-- a number that has no object isn't marked
abbrev pub MarksExist : State → ℕ → Type 0
MarksExist s p = (world_of s).marked p ≡ true → (o : Object) × ((world_of s).object p ≡ Some o)

-- an object of pointer p is in the world exactly where its cell is used without DROP: its owner's, with the length and the data structure that the
-- cell says. Near it lies in the group of its log, and byte k of it is byte k % 8, little end first, of data word k / 8 behind its header; far it is
-- of the words stored for it. A scope is open where its word isn't 0, viewed is what is held, and a log that isn't free is a group
pub record ObjectAgrees (s : State) (p : ℕ) : Type 0 where
  pub near : (len ds : ℕ) (place : Place) (m : Marks) → read_of (s.cell p) ≡ Some (Near len ds place m) → m.dropped ≡ false →
      (o : Object) × ((world_of s).object p ≡ Some o) × (o.owner ≡ p / CELLS) × (o.ds ≡ ds) × (length o.bytes ≡ len) × (o.home ≡ Group place.log)
      × ((k : ℕ) → k < len → slice_index o.bytes k ≡ s.word (addr place + 1 + k / 8) / 2 ^ (8 * (k % 8)) % 256)
  pub far : (len ds : ℕ) (m : Marks) → read_of (s.cell p) ≡ Some (Far len ds m) → m.dropped ≡ false →
      (o : Object) × ((world_of s).object p ≡ Some o) × (o.owner ≡ p / CELLS) × (o.ds ≡ ds) × (length o.bytes ≡ len) × (o.home ≡ FarSide)
      × ((k : ℕ) → k < len → slice_index o.bytes k ≡ s.stored p (k / 8) / 2 ^ (8 * (k % 8)) % 256)
  pub none : in_use (read_of (s.cell p)) ≡ false → (world_of s).object p ≡ None
  pub opened : ((world_of s).opened (p / CELLS) ≡ true) ↔ (s.scope (p / CELLS) ≢ 0)
  pub viewed : ((world_of s).viewed p ≡ true) ↔ IsSome (s.held p)
  pub group : (l : ℕ) → ((world_of s).group l ≡ true) ↔ (s.kind l ≢ Free)
  pub honest : (world_of s).honest ≡ s.honest
