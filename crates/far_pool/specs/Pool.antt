-- A worker's objects by their handles: all that a user of a worker need know.
use Rattle.std.specs.Prelude.{◌≡◌, ◌≢◌, ◌⊎◌, ℕ, zero, suc, ◌+◌, ◌*◌, ◌%◌, ◌==◌, ◌<◌, ◌≤◌, Bool, true, false, ◌&&◌, nat_lt, nat_le, Option, Some, None, is_some, filter, IfSome, List, [], length, slice_set, slice_index_or, slice_range, if◌then◌else◌}
use Rattle.std.specs.Option.{option_map}
use Rattle.far_word.specs.declared.refused.Refused.{Refused}
use Rattle.far_word.specs.declared.refused.Refused.TheVariants.{EpochsSpent, Length, Memory, NoPointer, NoRoom, NotHeld, Range, Shape}
use Rattle.far_word.specs.declared.sizes.TheConstants.{POINTERS}
use Rattle.far_private.specs.Heap.{IsOutside, is_length, is_logs}
use Rattle.far_private.specs.Objects.{Object, bytes_of, len_of, rewritten}
use Rattle.far_pool.specs.declared.handle.Handle.{Handle}
use Rattle.far_pool.specs.declared.plan.Layout.{Layout}
use Rattle.far_pool.specs.declared.worker.TheConstants.{MOST_HEAPS}

-- a heap: whether its far side is honest, of how many logs it is, and of each pointer the object, none where it is free, and how often one was dropped, up to 65,535 and then from 0 on
pub record Shelf : Type 0 where
  pub honest : Bool
  pub logs : ℕ
  pub objects : List (Option Object)
  pub generations : List ℕ

-- a worker: whether the far sides of all its heaps are honest, of how many logs each heap is, and its heaps
pub record Pool : Type 0 where
  pub honest : Bool
  pub logs : ℕ
  pub shelves : List Shelf

abbrev pub no_shelf : Shelf
no_shelf = record { honest = true; logs = 0; objects = []; generations = [] }

-- ---- on one shelf, by pointer and generation
abbrev pub generation_on : Shelf → ℕ → ℕ
generation_on s p = slice_index_or s.generations p 0

abbrev pub object_on : Shelf → ℕ → Option Object
object_on s p = slice_index_or s.objects p None

abbrev pub found : Shelf → ℕ → ℕ → Option Object
found s p g = if generation_on s p == g then object_on s p else None

abbrev pub putting : ℕ → Option Object → Shelf → Shelf
putting p o s = record s { objects = slice_set s.objects p o }

-- the generation after one
abbrev pub next_generation : ℕ → ℕ
next_generation g = (g + 1) % 65536

abbrev pub dropping : ℕ → ℕ → Shelf → Shelf
dropping p g s = record s { objects = slice_set s.objects p None; generations = slice_set s.generations p (next_generation g) }

-- ---- by handle
abbrev pub shelf_in : Pool → ℕ → Shelf
shelf_in w k = slice_index_or w.shelves k no_shelf

abbrev pub generation_in : Pool → Handle → ℕ
generation_in w h = generation_on (shelf_in w h.heap) h.pointer

-- the object of a handle, if the worker has one: it isn't dropped
abbrev pub at : Pool → Handle → Option Object
at w h = found (shelf_in w h.heap) h.pointer h.generation

abbrev pub has : Pool → Handle → Bool
has w h = is_some (at w h)

-- its bytes, where they are known: the far side is honest
abbrev pub bytes_at : Pool → Handle → Option (List ℕ)
bytes_at w h = bytes_of (at w h)

abbrev pub len_at : Pool → Handle → ℕ
len_at w h = len_of (at w h)

-- two handles of one pointer
abbrev pub OnePointer : Handle → Handle → Type 0
OnePointer h k = (k.heap ≡ h.heap) × (k.pointer ≡ h.pointer)

-- all objects and generations are as before; there may be more heaps
pub record Same (w v : Pool) : Type 0 where
  pub honest : v.honest ≡ w.honest
  pub logs : v.logs ≡ w.logs
  pub all : (k : Handle) → at v k ≡ at w k
  pub generations : (k : Handle) → generation_in v k ≡ generation_in w k

-- from then on this is the object of a handle, or there is none; and each other handle has what it had
pub record Changes (h : Handle) (o : Option Object) (w v : Pool) : Type 0 where
  pub here : at v h ≡ o
  pub others : (k : Handle) → k ≢ h → at v k ≡ at w k
  pub honest : v.honest ≡ w.honest
  pub logs : v.logs ≡ w.logs

-- what a call does to generations: nothing, or the pointer of a handle has the next one
abbrev pub SameGenerations : Pool → Pool → Type 0
SameGenerations w v = (k : Handle) → generation_in v k ≡ generation_in w k

pub record NextGeneration (h : Handle) (w v : Pool) : Type 0 where
  pub was : generation_in w h ≡ h.generation
  pub here : generation_in v h ≡ next_generation h.generation
  pub others : (k : Handle) → (OnePointer h k → ⊥) → generation_in v k ≡ generation_in w k

-- a new object has its pointer's generation, and its handle had none
pub record Makes (h : Handle) (o : Object) (w v : Pool) : Type 0 where
  pub fresh : at w h ≡ None
  pub now : generation_in w h ≡ h.generation
  pub changes : Changes h (Some o) w v
  pub generations : SameGenerations w v

-- bytes of an object are others from one on
abbrev pub Writes : Handle → ℕ → List ℕ → Pool → Pool → Type 0
Writes h from bytes w v = Changes h (option_map (rewritten from bytes) (at w h)) w v × SameGenerations w v

-- a range of an object was read, and given to one call, whose outcome is told by its bytes before and after; these were written
pub record Updates (outcome : List ℕ → Unit {0} → List ℕ → Type 0) (h : Handle) (from count : ℕ) (bytes : List ℕ) (w v : Pool) : Type 0 where
  pub read : List ℕ
  pub told : IfSome (bytes_at w h) (λ all. read ≡ slice_range all from (from + count))
  pub called : outcome read tt bytes
  pub written : Writes h from bytes w v

-- the same on one shelf
pub record UpdatesOn (outcome : List ℕ → Unit {0} → List ℕ → Type 0) (p g from count : ℕ) (bytes : List ℕ) (s n : Shelf) : Type 0 where
  pub read : List ℕ
  pub told : IfSome (bytes_of (found s p g)) (λ all. read ≡ slice_range all from (from + count))
  pub called : outcome read tt bytes
  pub written : n ≡ putting p (option_map (rewritten from bytes) (found s p g)) s

-- ---- when an access is refused before anything is done: there is no object; or the range is empty, or passes the object's end
abbrev pub refusal_of : Option Object → ℕ → ℕ → Option Refused
refusal_of o from count = if is_some o then (if nat_lt 0 count && nat_le (from + count) (len_of o) then None else Some Range) else Some NotHeld

-- why an object wasn't read whole: there is none; or there is no memory for it, or it doesn't come
abbrev pub IsWhyNotWhole : Bool → Option Object → Refused → Type 0
IsWhyNotWhole honest o NotHeld = o ≡ None
IsWhyNotWhole honest o why = (is_some o ≡ true) × IsOutside honest why

-- why no object was made: its length is none that an object has; else one of three causes. When each comes isn't said here; Memory never does
abbrev pub IsWhyNone : ℕ → Refused → Type 0
IsWhyNone len Length = is_length len ≡ false
IsWhyNone len NoPointer = is_length len ≡ true
IsWhyNone len NoRoom = is_length len ≡ true
IsWhyNone len EpochsSpent = is_length len ≡ true
IsWhyNone len why = ⊥

-- why no heap was added to so many: a worker may have no more; memory was refused, or as the maker of devices refuses
abbrev pub IsWhyNoHeap : (Refused → Type 0) → ℕ → Refused → Type 0
IsWhyNoHeap refuses heaps why = ((why ≡ NoPointer) × (heaps ≡ MOST_HEAPS)) ⊎ ((why ≡ Memory) ⊎ refuses why)

-- why no worker was made: it would have too many heaps; else heaps of too few or too many logs; else memory was refused, or as the maker of devices refuses
abbrev pub IsWhyNoWorker : (Refused → Type 0) → Layout → Refused → Type 0
IsWhyNoWorker refuses l why = ((why ≡ NoPointer) × (MOST_HEAPS < l.heaps)) ⊎ (((why ≡ Shape) × (l.heaps ≤ MOST_HEAPS) × (is_logs l.logs ≡ false)) ⊎ ((why ≡ Memory) ⊎ refuses why))

-- ---- what is true of each worker: all heaps are as honest as it is, and of as many logs as it has
pub record IsAlike (b : Bool) (l : ℕ) (s : Shelf) : Type 0 where
  pub honest : s.honest ≡ b
  pub logs : s.logs ≡ l

abbrev pub AreAlike : Bool → ℕ → List Shelf → Type 0
AreAlike honest logs shelves = (k : ℕ) → k < length shelves → IsAlike honest logs (slice_index_or shelves k no_shelf)

-- ---- all objects
-- how many a heap has
abbrev pub count_on : Shelf → ℕ
count_on s = length (filter is_some s.objects)

-- how many the first so many heaps have
unfoldable pub count_below : List Shelf → ℕ → ℕ
count_below shelves zero = 0
count_below shelves (suc k) = count_below shelves k + count_on (slice_index_or shelves k no_shelf)

abbrev pub count_in : Pool → ℕ
count_in w = count_below w.shelves (length w.shelves)

-- handles in order: a heap's after those of the heaps before it, by pointer
abbrev pub place_of : Handle → ℕ
place_of h = h.heap * POINTERS + h.pointer

-- of the objects from a place on this is the first; or there is none
abbrev pub IsFirst : Pool → ℕ → Option Handle → Type 0
IsFirst w from (Some h) = (has w h ≡ true) × (from ≤ place_of h) × ((k : Handle) → k.pointer < POINTERS → from ≤ place_of k → place_of k < place_of h → at w k ≡ None)
IsFirst w from None = (k : Handle) → k.pointer < POINTERS → from ≤ place_of k → at w k ≡ None
