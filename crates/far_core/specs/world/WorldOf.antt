-- The world that a state means.
use Rattle.std.specs.Prelude.{ℕ, ◌+◌, ◌/◌, Bool, true, false, cond, ◌==◌, ◌&&◌, ◌||◌, not, Option, Some, None, is_some}
use Rattle.far_word.specs.declared.pointer.PtrWord.{PtrWord}
use Rattle.far_word.specs.declared.pointer.PtrWord.TheVariants.{Free, Near, Far}
use Rattle.far_word.specs.declared.sizes.TheConstants.{CELLS}
use Rattle.far_word.specs.Bytes.{bytes_of}
use Rattle.far_word.specs.Pointer.{read_of}
use Rattle.far_events.specs.declared.event.Kind.{Kind}
use Rattle.far_events.specs.declared.event.Kind.TheVariants as kinds
use Rattle.far_events.specs.state.State.{State, addr}
use Rattle.far_core.specs.world.World.{World, Object, Group, FarSide}

-- the object of pointer p, by what its cell says: the bytes at its place, or those that were stored
abbrev pub object_of : (ℕ → ℕ) → (ℕ → ℕ) → ℕ → Option PtrWord → Option Object
object_of word stored p None = None
object_of word stored p (Some Free) = None
object_of word stored p (Some (Near len ds place m)) =
    cond m.dropped None (Some record { owner = p / CELLS; ds = ds; bytes = bytes_of (λ i. word (addr place + 1 + i)) len; home = Group place.log })
object_of word stored p (Some (Far len ds m)) =
    cond m.dropped None (Some record { owner = p / CELLS; ds = ds; bytes = bytes_of stored len; home = FarSide })

-- an object is marked where its word has EVAC or MOVE
abbrev pub is_marked : Option PtrWord → Bool
is_marked None = false
is_marked (Some Free) = false
is_marked (Some (Near len ds place m)) = not m.dropped && (m.evac || m.moved)
is_marked (Some (Far len ds m)) = not m.dropped && (m.evac || m.moved)

-- a log that is open or sealed is held
abbrev pub is_group : Kind → Bool
is_group kinds.Free = false
is_group kinds.Open = true
is_group kinds.Sealed = true

-- open are the owners whose scope word isn't 0, and viewed is what is held
unfoldable pub world_of : State → World
world_of s = record {
  object = λ p. object_of s.word (s.stored p) p (read_of (s.cell p));
  opened = λ m. not (s.scope m == 0);
  viewed = λ p. is_some (s.held p);
  marked = λ p. is_marked (read_of (s.cell p));
  group = λ l. is_group (s.kind l);
  honest = s.honest;
}
