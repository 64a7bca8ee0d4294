-- Which pointers of a heap are free.
use Rattle.std.specs.Prelude.{◌≡◌, ◌<◌, ℕ, Bool, true, false, is_some, not}
use Rattle.far_events.specs.state.State.{State}
use Rattle.far_private.specs.FreeBits.{is_set_in}
use Rattle.far_private.specs.Objects.{Objects, Settled, objects_of}
use Rattle.far_private.specs.declared.free_pointers.FreePointers.{FreePointers}

-- a pointer is in the set
unfoldable pub has : FreePointers → ℕ → Bool
has set = is_set_in set.words

-- it is the lowest of the set
abbrev pub IsLowest : FreePointers → ℕ → Type 0
IsLowest set p = (p < 2048) × (has set p ≡ true) × ((q : ℕ) → q < p → has set q ≡ false)

-- the set has the pointers that have no object, and no others
abbrev pub HasFree : FreePointers → Objects → Type 0
HasFree set o = (p : ℕ) → p < 2048 → has set p ≡ not (is_some (o.object p))

-- a heap between two calls: its state is settled, and its set has the free pointers
pub record IsKept (s : State) (set : FreePointers) : Type 0 where
  pub settled : Settled s
  pub free : HasFree set (objects_of s)
