-- What an evacuator's core has, as a user of the heap sees it.
use Rattle.std.specs.Prelude.{ℕ, List, map}
use Rattle.std.specs.List.{range_with_len}
use Rattle.far_word.specs.declared.sizes.TheConstants.{POINTERS}
use Rattle.far_hand.specs.declared.plain.Plain.{Plain}
use Rattle.far_evac.specs.EvacOf.{EvacOf}
use Rattle.far_private.specs.Heap.{Heap}
use Rattle.far_private.specs.Objects.{Objects, objects_in}

-- a function's values at the first so many numbers
unfoldable pub row : {X : Type 0} → ℕ → (ℕ → X) → List X
row n f = map f (range_with_len 0 n)

abbrev pub heap_of : Objects → Heap
heap_of o = record { honest = o.honest; logs = o.logs; objects = row POINTERS o.object }

abbrev pub heap_in : {D : Type 0} → EvacOf Plain D → Heap
heap_in evac = heap_of (objects_in evac)
